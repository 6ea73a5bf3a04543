-- From the lemmas of Cutting and Numbered.
use Rattle.std.proofs.Common.{◌≡◌, ℕ, ◌-◌, List, length, get_or, ◌∙◌, sym, ap, arith}
use Rattle.leak_roots.specs.declared.piece.Piece.{Piece}
use Rattle.leak_roots.specs.Cut.{cut_count, register_pieces, memory_pieces, pieces_of}
use Rattle.leak_roots.proofs.Cutting.{range_is}
use Rattle.leak_roots.proofs.Numbered.{length_pieces_of, register_at, memory_at, flat_at}
use Rattle.leak_roots.proofs.pieces.Pieces.at.Goals as goal

pub returns-then-place-self : goal.returns-then-place-self
returns-then-place-self c = λ d.
    let i = c.self.inside in
    let e = c.self.invariant.registers_cut in
    c.piece_of_registers.ensures d
    ∙ ap (λ (rs : List ℕ). get_or (register_pieces i.words (length rs)) c.args.place d) c.registers.ensures
    ∙ sym (register_at i.words i.roots.now c.args.place d (omega arith))
    ∙ ap (λ (xs : List Piece). get_or xs c.args.place d) c.self.view_is

pub find_range-range-requires-clause-piece : goal.find_range-range-requires-clause-piece
find_range-range-requires-clause-piece c =
    let i = c.self.inside in
    let e = c.self.invariant.registers_cut in
    let n = length_pieces_of i.words i.roots.now in
    let v : length (pieces_of i.words i.roots.now) ≡ length c.args.self.now = ap (λ (xs : List Piece). length xs) c.self.view_is in
    let m : length (memory_pieces i.words c.memory-memory.result.now) ≡ length (memory_pieces i.words i.roots.now.memory) = ap (λ (rs : List (ℕ × ℕ)). length (memory_pieces i.words rs)) c.memory-memory.ensures.value in
    omega arith

pub piece_in-requires-clause-range : goal.piece_in-requires-clause-range
piece_in-requires-clause-range c = range_is c.memory-memory.result.now c.find_range-range.result.0 (0, 0) c.memory-memory.ensures.ranges c.find_range-range.ensures.range

pub returns : goal.returns
returns c = λ d.
    let i = c.self.inside in
    let e = c.self.invariant.registers_cut in
    let f = c.find_range-range.ensures in
    c.piece_in.ensures d
    ∙ sym (flat_at i.words c.memory-memory.result.now c.find_range-range.result.0 c.find_range-range.result.1 (0, 0) d f.range (f.within (0, 0)))
    ∙ ap (λ (k : ℕ). get_or (memory_pieces i.words c.memory-memory.result.now) k d) (f.place ∙ ap (λ (k : ℕ). c.args.place - k) e)
    ∙ ap (λ (rs : List (ℕ × ℕ)). get_or (memory_pieces i.words rs) (c.args.place - cut_count i.words (length i.roots.now.registers)) d) c.memory-memory.ensures.value
    ∙ sym (memory_at i.words i.roots.now c.args.place d (omega arith))
    ∙ ap (λ (xs : List Piece). get_or xs c.args.place d) c.self.view_is
