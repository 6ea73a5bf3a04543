-- A heap's chunk that fits has one of three sizes, and a link is asked for past the least of them.
use Rattle.std.proofs.Common.{◌≡◌, ◌⊎◌, ℕ, zero, suc, ◌+◌, ◌-◌, ◌<◌, ◌≤◌, inl, inr, Bool, true, false, ◌||◌, ◌==◌, List, [], ◌∷◌, get_or, refl, sym, subst, eqb-true, Contains, arith}
use Rattle.leak_blocks.specs.declared.block.Block.{Block}
use Rattle.leak_chunks.specs.Fit.{chunk_size, is_heap_chunk_for, least_chunk}
use Rattle.leak_chunks.specs.FreeLinks.{next_header}
use Rattle.leak_roots.specs.declared.skip.Skip.{Skip}
use Rattle.leak_alike.specs.Alike.{IsAsked, size_word, next_size_word, header_word, record_word, frame_word}
use Rattle.leak_alike.specs.AskedWords.{IsNear, distances, own, past}

-- ---- distances

first : (links : Bool) → Contains (distances links) 0
first true = (0, omega arith, refl)
first false = (0, omega arith, refl)

second : (links : Bool) → Contains (distances links) 16
second true = (2, omega arith, refl)
second false = (1, omega arith, refl)

third : (links : Bool) → Contains (distances links) 32
third true = (3, omega arith, refl)
third false = (2, omega arith, refl)

-- ---- addresses

module _ (blocks : List Block) (links : Bool) (b : Block) (has : Contains blocks b) where
  at : (a distance : ℕ) → Contains (distances links) distance → b.start + least_chunk b.size - 8 + distance ≡ a → IsNear blocks links a
  at a distance one e = subst (IsNear blocks links) e (past b distance has one)

  low : 32 ≤ least_chunk b.size
  low = omega arith

  next : (chunk : ℕ) → is_heap_chunk_for b.size chunk ≡ true → IsNear blocks links (b.start + chunk - 8)
  next chunk fits = go (chunk == least_chunk b.size) (chunk == least_chunk b.size + 16) (chunk == least_chunk b.size + 32)
      (eqb-true chunk (least_chunk b.size)) (eqb-true chunk (least_chunk b.size + 16)) (eqb-true chunk (least_chunk b.size + 32)) fits
    where
      go : (s t u : Bool) → (s ≡ true → chunk ≡ least_chunk b.size) → (t ≡ true → chunk ≡ least_chunk b.size + 16) → (u ≡ true → chunk ≡ least_chunk b.size + 32)
          → (s || t || u) ≡ true → IsNear blocks links (b.start + chunk - 8)
      go true t u e f g is = let h = e refl in at (b.start + chunk - 8) 0 (first links) (omega (arith, low, h))
      go false true u e f g is = let h = f refl in at (b.start + chunk - 8) 16 (second links) (omega (arith, low, h))
      go false false true e f g is = let h = g refl in at (b.start + chunk - 8) 32 (third links) (omega (arith, low, h))
      go false false false e f g is = absurd (let no : false ≡ true = is in cc)

  header : links ≡ true → (distance : ℕ) → Contains (8 ∷ 16 ∷ 24 ∷ []) distance → IsNear blocks links (next_header b + distance)
  header left distance one = go one.0 one.1 one.2
    where
      listed : (d : ℕ) → Contains (distances true) d → Contains (distances links) d
      listed d here = subst (λ (t : Bool). Contains (distances t) d) (sym left) here

      go : (k : ℕ) → k < 3 → get_or (8 ∷ 16 ∷ 24 ∷ []) k distance ≡ distance → IsNear blocks links (next_header b + distance)
      go zero h e = at (next_header b + distance) 0 (listed 0 (0, omega arith, refl)) (omega (arith, low, e))
      go (suc zero) h e = at (next_header b + distance) 8 (listed 8 (1, omega arith, refl)) (omega (arith, low, e))
      go (suc (suc zero)) h e = at (next_header b + distance) 16 (listed 16 (2, omega arith, refl)) (omega (arith, low, e))
      go (suc (suc (suc k))) h e = absurd (omega arith)

pub asked_near : (core : List ℕ) (blocks : List Block) (skip : Skip) (a : ℕ) → IsAsked core blocks skip a → IsNear blocks skip.links a ⊎ IsAsked core [] skip a
asked_near core blocks skip a (size_word b has) = inl (own b has)
asked_near core blocks skip a (next_size_word b word has e heap fits) = inl (next blocks skip.links b has (chunk_size word) fits)
asked_near core blocks skip a (header_word b d links has least free one) = inl (header blocks skip.links b has links d one)
asked_near core blocks skip a (record_word t p dead has low high) = inr (record_word t p dead has low high)
asked_near core blocks skip a (frame_word t k p dead has e low high) = inr (frame_word t k p dead has e low high)
