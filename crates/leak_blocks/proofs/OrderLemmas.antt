-- Insertion by start.
use Rattle.std.proofs.Common.{◌≡◌, ◌≢◌, ℕ, ◌+◌, ◌<◌, ◌≤◌, Bool, true, false, cond, refl, sym, ap, ◌∙◌, List, [], ◌∷◌, ◌++◌, filter, count_by, sum_by, arith, nat_lt, if◌then◌else◌, ltb→lt, nltb→le}
use Rattle.std.specs.Bool.{passes, fails}
use Rattle.std.specs.List.{AllByRecursion}
use Rattle.std.proofs.lemmas.Bool.Decides.{nat_tests}
use Rattle.std.proofs.lemmas.List.Sums.{sum_by-cons}
use Rattle.leak_blocks.specs.declared.block.Block.{Block}
use Rattle.leak_blocks.specs.Span.{AreDisjoint, span_end}
use Rattle.leak_blocks.specs.Live.{among, ascending}
use Rattle.leak_blocks.proofs.DisjointLemmas.{ArePairsApart, ascending_apart}

pub among_before : (b c : Block) (cs : List Block) → nat_lt b.start c.start ≡ true → among b (c ∷ cs) ≡ b ∷ c ∷ cs
among_before b c cs e = ap (λ (t : Bool). if t then b ∷ c ∷ cs else c ∷ among b cs) e

pub among_behind : (b c : Block) (cs : List Block) → nat_lt b.start c.start ≡ false → among b (c ∷ cs) ≡ c ∷ among b cs
among_behind b c cs e = ap (λ (t : Bool). if t then b ∷ c ∷ cs else c ∷ among b cs) e

pub is_less : (m n : ℕ) → m < n → nat_lt m n ≡ true
is_less m n h = grind (arith, nat_tests)

pub is_not_less : (m n : ℕ) → n ≤ m → nat_lt m n ≡ false
is_not_less m n h = grind (arith, nat_tests)

pub less_of : (m n : ℕ) → nat_lt m n ≡ true → m < n
less_of m n e = ltb→lt _ _ (passes _ e)

pub not_less_of : (m n : ℕ) → nat_lt m n ≡ false → n ≤ m
not_less_of m n e = nltb→le _ _ (fails _ e)

-- the order of two insertions does not matter
among_swapped : (b c : Block) (ds : List Block) → b.start ≢ c.start → among b (among c ds) ≡ among c (among b ds)
among_swapped b c [] apart = go (nat_lt b.start c.start) refl
  where
    go : (s : Bool) → nat_lt b.start c.start ≡ s → among b (c ∷ []) ≡ among c (b ∷ [])
    go true e = among_before b c [] e ∙ sym (among_behind c b [] (is_not_less c.start b.start (let h = less_of _ _ e in omega arith)))
    go false e = among_behind b c [] e ∙ sym (among_before c b [] (is_less c.start b.start (let h = not_less_of _ _ e in omega arith)))
among_swapped b c (d ∷ ds) apart = go (nat_lt c.start d.start) (nat_lt b.start d.start) (nat_lt b.start c.start) refl refl refl (among_swapped b c ds apart)
  where
    go : (s t u : Bool) → nat_lt c.start d.start ≡ s → nat_lt b.start d.start ≡ t → nat_lt b.start c.start ≡ u → among b (among c ds) ≡ among c (among b ds) → among b (among c (d ∷ ds)) ≡ among c (among b (d ∷ ds))
    go true true true e f g rest =
        ap (among b) (among_before c d ds e) ∙ among_before b c (d ∷ ds) g
        ∙ sym (ap (among c) (among_before b d ds f) ∙ among_behind c b (d ∷ ds) (is_not_less _ _ (let h = less_of _ _ g in omega arith)) ∙ ap (λ (l : List Block). b ∷ l) (among_before c d ds e))
    go true true false e f g rest =
        ap (among b) (among_before c d ds e) ∙ among_behind b c (d ∷ ds) g ∙ ap (λ (l : List Block). c ∷ l) (among_before b d ds f)
        ∙ sym (ap (among c) (among_before b d ds f) ∙ among_before c b (d ∷ ds) (is_less _ _ (let h = not_less_of _ _ g in omega arith)))
    go true false u e f g rest =
        ap (among b) (among_before c d ds e) ∙ among_behind b c (d ∷ ds) (is_not_less _ _ (let h = less_of _ _ e in let k = not_less_of _ _ f in omega arith)) ∙ ap (λ (l : List Block). c ∷ l) (among_behind b d ds f)
        ∙ sym (ap (among c) (among_behind b d ds f) ∙ among_before c d (among b ds) e)
    go false true u e f g rest =
        ap (among b) (among_behind c d ds e) ∙ among_before b d (among c ds) f
        ∙ sym (ap (among c) (among_before b d ds f) ∙ among_behind c b (d ∷ ds) (is_not_less _ _ (let h = less_of _ _ f in let k = not_less_of _ _ e in omega arith)) ∙ ap (λ (l : List Block). b ∷ l) (among_behind c d ds e))
    go false false u e f g rest =
        ap (among b) (among_behind c d ds e) ∙ among_behind b d (among c ds) f ∙ ap (λ (l : List Block). d ∷ l) rest
        ∙ sym (ap (among c) (among_behind b d ds f) ∙ among_behind c d (among b ds) e)

-- a block at the end of the list may be inserted last
pub ascending_more : (bs : List Block) (b : Block) → AllByRecursion (λ c. c.start ≢ b.start) bs → ascending (bs ++ b ∷ []) ≡ among b (ascending bs)
ascending_more [] b apart = refl
ascending_more (c ∷ cs) b apart = ap (among c) (ascending_more cs b apart.1) ∙ among_swapped c b (ascending cs) apart.0

-- ---- parts of a list in order

pub all_filter : (P : Block → Type 0) (p : Block → Bool) (bs : List Block) → AllByRecursion P bs → AllByRecursion P (filter p bs)
all_filter P p [] h = tt
all_filter P p (b ∷ bs) h = go (p b) (all_filter P p bs h.1)
  where
    go : (t : Bool) → AllByRecursion P (filter p bs) → AllByRecursion P (cond t (b ∷ filter p bs) (filter p bs))
    go true rest = (h.0, rest)
    go false rest = rest

pub filter_disjoint : (p : Block → Bool) (bs : List Block) → AreDisjoint bs → AreDisjoint (filter p bs)
filter_disjoint p [] h = tt
filter_disjoint p (b ∷ bs) h = go (p b) (filter_disjoint p bs h.1)
  where
    go : (t : Bool) → AreDisjoint (filter p bs) → AreDisjoint (cond t (b ∷ filter p bs) (filter p bs))
    go true rest = (all_filter _ p bs h.0, rest)
    go false rest = rest

among_first : (b : Block) (cs : List Block) → AllByRecursion (λ c. b.start < c.start) cs → among b cs ≡ b ∷ cs
among_first b [] h = refl
among_first b (c ∷ cs) h = among_before b c cs (is_less _ _ h.0)

behind_all : (b c : Block) (ds : List Block) → b.start < c.start → AllByRecursion (λ d. span_end c ≤ d.start) ds → AllByRecursion (λ d. b.start < d.start) ds
behind_all b c [] h rest = tt
behind_all b c (d ∷ ds) h rest = (omega (arith, rest.0), behind_all b c ds h rest.1)

filter_among : (p : Block → Bool) (b : Block) (cs : List Block) → AreDisjoint cs → filter p (among b cs) ≡ cond (p b) (among b (filter p cs)) (filter p cs)
filter_among p b [] h = refl
filter_among p b (c ∷ cs) h = go (nat_lt b.start c.start) refl (filter_among p b cs h.1)
  where
    before : (s t : Bool) → b.start < c.start → cond s (b ∷ cond t (c ∷ filter p cs) (filter p cs)) (cond t (c ∷ filter p cs) (filter p cs)) ≡ cond s (among b (cond t (c ∷ filter p cs) (filter p cs))) (cond t (c ∷ filter p cs) (filter p cs))
    before true true l = sym (among_before b c (filter p cs) (is_less _ _ l))
    before true false l = sym (among_first b (filter p cs) (all_filter _ p cs (behind_all b c cs l h.0)))
    before false t l = refl

    behind : (s t : Bool) → nat_lt b.start c.start ≡ false → cond t (c ∷ cond s (among b (filter p cs)) (filter p cs)) (cond s (among b (filter p cs)) (filter p cs)) ≡ cond s (among b (cond t (c ∷ filter p cs) (filter p cs))) (cond t (c ∷ filter p cs) (filter p cs))
    behind true true e = sym (among_behind b c (filter p cs) e)
    behind true false e = refl
    behind false true e = refl
    behind false false e = refl

    go : (u : Bool) → nat_lt b.start c.start ≡ u → filter p (among b cs) ≡ cond (p b) (among b (filter p cs)) (filter p cs) → filter p (among b (c ∷ cs)) ≡ cond (p b) (among b (filter p (c ∷ cs))) (filter p (c ∷ cs))
    go true e rest = ap (filter p) (among_before b c cs e) ∙ before (p b) (p c) (less_of _ _ e)
    go false e rest = ap (filter p) (among_behind b c cs e) ∙ ap (λ (l : List Block). cond (p c) (c ∷ l) l) rest ∙ behind (p b) (p c) e

pub filter_ascending : (p : Block → Bool) (bs : List Block) → ArePairsApart bs → filter p (ascending bs) ≡ ascending (filter p bs)
filter_ascending p [] h = refl
filter_ascending p (b ∷ bs) h = filter_among p b (ascending bs) (ascending_apart bs h.1) ∙ ap (λ (l : List Block). cond (p b) (among b l) l) (filter_ascending p bs h.1) ∙ out (p b)
  where
    out : (t : Bool) → cond t (among b (ascending (filter p bs))) (ascending (filter p bs)) ≡ ascending (cond t (b ∷ filter p bs) (filter p bs))
    out true = refl
    out false = refl

sum_among : (f : Block → ℕ) (b : Block) (cs : List Block) → sum_by f (among b cs) ≡ f b + sum_by f cs
sum_among f b [] = sum_by-cons f b []
sum_among f b (c ∷ cs) = go (nat_lt b.start c.start) (sum_among f b cs)
  where
    go : (t : Bool) → sum_by f (among b cs) ≡ f b + sum_by f cs → sum_by f (if t then b ∷ c ∷ cs else c ∷ among b cs) ≡ f b + sum_by f (c ∷ cs)
    go true rest = sum_by-cons f b (c ∷ cs)
    go false rest = omega (arith, sum_by-cons f c (among b cs), sum_by-cons f c cs, rest)

sum_ascending : (f : Block → ℕ) (bs : List Block) → sum_by f (ascending bs) ≡ sum_by f bs
sum_ascending f [] = refl
sum_ascending f (b ∷ bs) = sum_among f b (ascending bs) ∙ omega (arith, sum_ascending f bs, sum_by-cons f b bs)

pub count_ascending : (p : Block → Bool) (bs : List Block) → count_by p (ascending bs) ≡ count_by p bs
count_ascending p bs = sum_ascending (λ b. cond (p b) 1 0) bs
