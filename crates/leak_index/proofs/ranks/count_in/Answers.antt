-- One word more, which has hits if it is a start.
use Rattle.std.proofs.Common.{◌≡◌, ◌∙◌, ℕ, ◌+◌, ◌<◌, ◌≤◌, List, [], ◌∷◌, length, flat_map, take, get_or, Bool, true, false, IsTrue, refl, ap, subst, arith}
use Rattle.std.proofs.lemmas.List.{append-nil, length-append, take_more, take_all}
use Rattle.std.proofs.lemmas.List.Concat.{flat_map-append, flat_map-cons}
use Rattle.leak_index.proofs.ranks.count_in.Goals as goal
use mir.Val.{bool_byte}

one_more : (hits : ℕ → List ℕ) (words : List ℕ) (i : ℕ) → i < length words → length (flat_map hits (take (i + 1) words)) ≡ length (flat_map hits (take i words)) + length (hits (get_or words i 0))
one_more hits words i below =
    let word : ℕ = get_or words i 0 in
    ap (λ (l : List ℕ). length (flat_map hits l)) (take_more words i 0 below) ∙ ap (λ (l : List ℕ). length l) (flat_map-append hits (take i words) (word ∷ []))
    ∙ length-append (flat_map hits (take i words)) (flat_map hits (word ∷ []))
    ∙ ap (λ (l : List ℕ). length (flat_map hits (take i words)) + length l) (flat_map-cons hits word [] ∙ append-nil (hits word))

pub loop-word-init : goal.loop-word-init
loop-word-init c = record { few = omega arith; starts = λ hits finds. omega arith }

-- a byte that is 0, or 1 where something holds
byte_few : (b : Bool) (n : ℕ) → n ≡ bool_byte b → n ≤ 1
byte_few true n is = let one : n ≡ 1 = is in omega arith
byte_few false n is = let none : n ≡ 0 = is in omega arith

byte_more : (b : Bool) (n few more : ℕ) → n ≡ bool_byte b → few ≤ more → (IsTrue b → few < more) → few + n ≤ more
byte_more true n few more is least some = let one : n ≡ 1 = is in let s = some refl in omega arith
byte_more false n few more is least some = let none : n ≡ 0 = is in omega arith

pub loop-word-preserved : goal.loop-word-preserved
loop-word-preserved c =
    let words : List ℕ = c.args.words.now in let i : ℕ = c.loop-word.word-index in let word : ℕ = get_or words i 0 in
    record {
      few = let f = c.loop-word.invariant.few in let b = byte_few c.is_start.result c.from-count.result c.from-count.ensures in omega arith;
      starts = λ hits finds.
          let so_far = c.loop-word.invariant.starts hits finds in let more = one_more hits words i c.loop-word-test.true in
          byte_more c.is_start.result c.from-count.result c.loop-word.count (length (flat_map hits (take (i + 1) words))) c.from-count.ensures (omega arith)
          (λ is. let s = c.is_start.ensures is in let some : 0 < length (hits word) = finds word s.0 s.1 in omega arith);
    }

pub returns : goal.returns
returns c hits finds =
    subst (λ (l : List ℕ). c.loop-word.count ≤ length (flat_map hits l)) (take_all c.loop-word.word-index c.args.words.now c.loop-word-test.false) (c.loop-word.invariant.starts hits finds)
