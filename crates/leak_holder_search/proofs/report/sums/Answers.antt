-- From the lemmas of Leaks and TextLemmas.
use Rattle.std.proofs.Common.{◌≡◌, ◌++◌, ◌-◌, ap, arith, codes, length, option_map, rules, string_bytes}
use Rattle.leak_report.specs.Lines.{dead_lines, freed_lines, log_line, sizes_line, undumped_line}
use Rattle.leak_report.specs.Totals.{bytes_of}
use Rattle.leak_report.proofs.Leaks.{bytes_of-marked, length-marked}
use Rattle.leak_holder_search.specs.Text.{new_lines}
use Rattle.leak_holder_search.proofs.TextLemmas.{told}
use Rattle.leak_holder_search.proofs.report.sums.Goals as goal

pub overflow_sub-blocks : goal.overflow_sub-blocks
overflow_sub-blocks c =
    omega (arith, c.marked_sizes-marked.ensures.number, length-marked c.args.set.now c.blocks-3.result.now, ap length c.blocks-2.ensures.value, ap length c.blocks-3.ensures.value)

pub overflow_sub-bytes : goal.overflow_sub-bytes
overflow_sub-bytes c =
    omega (arith, c.marked_sizes-marked.ensures.bytes, bytes_of-marked c.args.set.now c.blocks-3.result.now, c.bytes-bytes.ensures, ap bytes_of c.blocks-3.ensures.value)

pub returns : goal.returns
returns c =
    let is : string_bytes c.push_sizes-3.new.out
    ≡ sizes_line (codes "blocks") (length c.args.live.now.blocks) c.bytes-bytes.result ++ undumped_line c.args.head.now ++ log_line c.args.head.now ++ freed_lines c.args.head.now.freed ++ dead_lines c.args.head.now.dead
    ++ new_lines (option_map (λ s. s.now) c.args.new) c.args.live.now.blocks ++ sizes_line (codes "marked") c.marked_sizes-marked.result.0 c.marked_sizes-marked.result.1
    ++ sizes_line (codes "leaked") (length c.args.live.now.blocks - c.marked_sizes-marked.result.0) (c.bytes-bytes.result - c.marked_sizes-marked.result.1) = search rules in
    told c.args.head.now c.args.live.now.blocks (option_map (λ s. s.now) c.args.new) c.args.set.now c.blocks-3.result.now c.bytes-bytes.result c.marked_sizes-marked.result.0 c.marked_sizes-marked.result.1 (string_bytes c.push_sizes-3.new.out)
    c.requires.one_each c.blocks-3.ensures.value c.bytes-bytes.ensures c.marked_sizes-marked.ensures.number c.marked_sizes-marked.ensures.bytes is
