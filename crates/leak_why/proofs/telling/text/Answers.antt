-- From what the calls promise.
use Rattle.std.proofs.Common.{◌≡◌, ◌++◌, ◌∙◌, List, ℕ, Option, None, codes, ap, sym, append_assoc}
use Rattle.leak_blocks.specs.declared.block.Block.{Block}
use Rattle.leak_why.specs.declared.chain.Chain.{Chain}
use Rattle.leak_why.specs.declared.chain.Link.{Link}
use Rattle.leak_why.specs.Text.{text_of, answer_text, numbered_line, root_line, links_text}
use Rattle.leak_why.proofs.telling.text.Goals as goal
use Rattle.leak_why.proofs.telling.text.Goals.{in-None+in_ok-extend_from_slice-in-None, in-Some+in_ok-push_root-in-Some+in_ok-push_links-in-Some+in_ok-push_numbered-in-Some}

joined : (a r l b : List ℕ) → ((a ++ r) ++ l) ++ b ≡ a ++ (r ++ (l ++ b))
joined a r l b = append_assoc (a ++ r) l b ∙ append_assoc a r (l ++ b)

pub returns : goal.returns
unfolding text_of
returns c =
    let log : List ℕ = c.args.log.now in
    let sets = c.args.sets.now in
    let blocks : List Block = c.args.live.now.blocks in
    let block = c.args.block in
    let same = c.blocks-blocks.ensures.value in
    let first : c.push_numbered.new.out.items ≡ numbered_line (codes "asked") log blocks block =
    c.in_ok-push_numbered.ensures ∙ ap (λ (l : List ℕ). l ++ numbered_line (codes "asked") log c.blocks-blocks.result.now block) c.new-out.ensures.items
    ∙ ap (λ (bs : List Block). numbered_line (codes "asked") log bs block) same in
    elim c.match-chain.branch [
      | in-None+in_ok-extend_from_slice-in-None w ↦
          ap (λ v. v.items) w.out-is ∙ w.in_ok-extend_from_slice-in-None.ensures.items
          ∙ ap (λ (l : List ℕ). l ++ answer_text log blocks sets block None) first
          ∙ ap (λ (o : Option Chain). numbered_line (codes "asked") log blocks block ++ answer_text log blocks sets block o) (sym w.in-None.is)
      | in-Some+in_ok-push_root-in-Some+in_ok-push_links-in-Some+in_ok-push_numbered-in-Some w ↦
          let a : List ℕ = numbered_line (codes "asked") log blocks block in
          let r : List ℕ = root_line sets w.in-Some.chain.root in
          let l : List ℕ = links_text log blocks w.in-Some.chain.links.items in
          let b : List ℕ = numbered_line (codes "block") log blocks block in
          let one : w.push_root.new.out.items ≡ a ++ r = w.in_ok-push_root-in-Some.ensures ∙ ap (λ (x : List ℕ). x ++ r) first in
          let two : w.push_links.new.out.items ≡ (a ++ r) ++ l =
          w.in_ok-push_links-in-Some.ensures ∙ ap (λ (x : List ℕ). x ++ links_text log c.blocks-blocks.result.now w.as_slice.result.now) one
          ∙ ap (λ (bs : List Block). (a ++ r) ++ links_text log bs w.as_slice.result.now) same
          ∙ ap (λ (ls : List Link). (a ++ r) ++ links_text log blocks ls) w.as_slice.ensures.value in
          ap (λ v. v.items) w.out-is ∙ w.in_ok-push_numbered-in-Some.ensures
          ∙ ap (λ (x : List ℕ). x ++ numbered_line (codes "block") log c.blocks-blocks.result.now block) two
          ∙ ap (λ (bs : List Block). ((a ++ r) ++ l) ++ numbered_line (codes "block") log bs block) same
          ∙ joined a r l b
          ∙ ap (λ (o : Option Chain). a ++ answer_text log blocks sets block o) (sym w.in-Some.is)
    ]
