-- From the lemmas of ScopeLemmas.
use Rattle.std.proofs.Common.{ℕ, ◌-◌, ◌<◌, ◌≤◌, List, length, get_or, ◌≡◌, ◌∙◌, ap, sym, subst, arith}
use Rattle.leak_roots.specs.declared.piece.Piece.{Piece}
use Rattle.leak_roots.specs.declared.piece.Piece.TheVariants.{Registers}
use Rattle.leak_roots.specs.Pieces.{IsPiece}
use Rattle.leak_pool.specs.Items.{IsItem, targets_of_item}
use Rattle.leak_pool.specs.Scopes.{root_targets, all_targets, piece_targets, part_targets}
use Rattle.leak_pool.specs.declared.target_source.Item.{Item}
use Rattle.leak_pool.specs.declared.start.Part.{Part}
use Rattle.leak_pool.specs.declared.start.Part.TheVariants.{Whole}
use Rattle.leak_pool.proofs.ScopeLemmas.{all_at, long_roots, of_block, of_piece, of_part}
use Rattle.leak_pool.proofs.scope.Scope.targets.Goals as goal

pub returns-in-Block : goal.returns-in-Block
returns-in-Block g c =
    let s = c.args.self.now in let w = g.W.Words.word_at s.words.now in let i = g.L.Lookup.index s.lookup.now in
    let roots : List (List ℕ) = root_targets w i s.roots.now s.pieces.now s.pages.now s.rescan.now in let all : List (List ℕ) = all_targets w i in
    subst (λ (x : Item). c.of_block.result ≡ targets_of_item roots all x) (sym c.in-Block.is)
    (c.of_block.ensures ∙ of_block w i _ c.in-Block.block _ s.same (subst (λ (x : Item). IsItem roots all x) c.in-Block.is c.requires))

pub returns-in-Root-2 : goal.returns-in-Root-2
returns-in-Root-2 g c =
    let s = c.args.self.now in let w = g.W.Words.word_at s.words.now in let i = g.L.Lookup.index s.lookup.now in
    let roots : List (List ℕ) = root_targets w i s.roots.now s.pieces.now s.pages.now s.rescan.now in let all : List (List ℕ) = all_targets w i in
    let place : c.in-Root.place ≡ c.in-Root-2.place = cc in
    let after : length s.pieces.now ≤ c.in-Root-2.place = let f = c.if-place-len.false in let n = c.len.ensures.count in omega arith in
    subst (λ (x : Item). c.of_part.result ≡ targets_of_item roots all x) (sym c.in-Root-2.is)
    (c.of_part.ensures
    ∙ ap (λ (n : ℕ). part_targets w i s.pages.now (get_or s.rescan.now (c.in-Root-2.place - n) (0, Whole))) c.len-in-Root-2.ensures.count
    ∙ of_part w i s.roots.now s.pieces.now s.pages.now s.rescan.now c.in-Root-2.place (0, Whole) after (subst (λ (x : Item). IsItem roots all x) c.in-Root-2.is c.requires))

pub of_piece-requires : goal.of_piece-requires
of_piece-requires g c =
    let s = c.args.self.now in
    subst (λ (x : Piece). IsPiece s.roots.now x) (sym (c.at.ensures (Registers 0 0)))
    (all_at (λ (x : Piece). IsPiece s.roots.now x) s.pieces.now c.in-Root.place (Registers 0 0) s.in_roots (let t = c.if-place-len.true in let n = c.len.ensures.count in omega arith))

pub of_part-requires : goal.of_part-requires
of_part-requires g c =
    let s = c.args.self.now in let w = g.W.Words.word_at s.words.now in let i = g.L.Lookup.index s.lookup.now in
    let roots : List (List ℕ) = root_targets w i s.roots.now s.pieces.now s.pages.now s.rescan.now in let all : List (List ℕ) = all_targets w i in
    let place : c.in-Root.place ≡ c.in-Root-2.place = cc in
    let is : c.in-Root-2.place < length roots = subst (λ (x : Item). IsItem roots all x) c.in-Root-2.is c.requires in
    let l = long_roots w i s.roots.now s.pieces.now s.pages.now s.rescan.now in
    all_at (λ (x : ℕ × Part). x.0 < length s.blocks.now) s.rescan.now (c.in-Root-2.place - c.len-in-Root-2.result) (0, Whole) s.in_blocks
    (let f = c.if-place-len.false in let n = c.len.ensures.count in let m = c.len-in-Root-2.ensures.count in omega arith)

pub returns-in-Root : goal.returns-in-Root
returns-in-Root g c =
    let s = c.args.self.now in let w = g.W.Words.word_at s.words.now in let i = g.L.Lookup.index s.lookup.now in
    let roots : List (List ℕ) = root_targets w i s.roots.now s.pieces.now s.pages.now s.rescan.now in let all : List (List ℕ) = all_targets w i in
    subst (λ (x : Item). c.of_piece.result ≡ targets_of_item roots all x) (sym c.in-Root.is)
    (c.of_piece.ensures
    ∙ ap (piece_targets w i s.roots.now) (c.at.ensures (Registers 0 0))
    ∙ of_piece w i s.roots.now s.pieces.now s.pages.now s.rescan.now c.in-Root.place (Registers 0 0) (let t = c.if-place-len.true in let n = c.len.ensures.count in omega arith))
