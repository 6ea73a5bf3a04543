-- What the workers' lists hold after a run.
use Rattle.std.proofs.Common.{◌≡◌, ℕ, zero, suc, ◌+◌, ◌<◌, Bool, true, false, not, cond, ◌&&◌, ◌||◌, refl, sym, subst, ap, ◌∙◌, true≢false, ◌==◌, List, [], ◌∷◌, ◌++◌, length, replicate, get_or, set, Option, Some, None, arith, find, length-set, le_of_suc-le-suc, if◌then◌else◌}
use Rattle.std.specs.List.{concat, AllByRecursion}
use Rattle.std.specs.Option.{option_map_or}
use Rattle.std.proofs.lemmas.List.{get_or-set_other, get_or-set_same, length-replicate}
use Rattle.std.proofs.Math.Bool.{or_assoc, or-false}
use Rattle.leak_marks.specs.Lists.{times, has}
use Rattle.leak_marks.specs.Claims.{attempted}
use Rattle.leak_marks.specs.Runs.{Attempt, IsFirstBy, after, targets_in}
use Rattle.leak_marks.proofs.BoolLemmas.{or_between, same_number, equal_itself, other_number, has-append, combine}
use Rattle.leak_marks.proofs.ListLemmas.{times_set}

-- the block is on some list, and the first attempt at it is the worker's, as tests
abbrev pub is_claimed : List (List ℕ) → ℕ → Bool
is_claimed lists b = has (concat lists) b

abbrev pub is_first_by : ℕ → ℕ → List Attempt → Bool
is_first_by worker block run = option_map_or (λ a. a.worker == worker) (find (λ a. a.target == block) run) false

pub of_first_by : (w b : ℕ) (run : List Attempt) → is_first_by w b run ≡ true → IsFirstBy w b run
of_first_by w b run = go (find (λ a. a.target == b) run)
  where
    go : (o : Option Attempt) → option_map_or (λ (a : Attempt). a.worker == w) o false ≡ true → (a : Attempt) × (o ≡ Some a) × (a.worker ≡ w)
    go None h = absurd (true≢false (sym h))
    go (Some a) h = (a, refl, same_number a.worker w h)

pub to_first_by : (w b : ℕ) (run : List Attempt) → IsFirstBy w b run → is_first_by w b run ≡ true
to_first_by w b run h = ap (λ (o : Option Attempt). option_map_or (λ (a : Attempt). a.worker == w) o false) h.1 ∙ equal_itself h.0.worker w h.2

-- ---- a block at the end of one of the lists

pub has_pushed : (lists : List (List ℕ)) (w x b : ℕ) → w < length lists → has (concat (set lists w (get_or lists w [] ++ x ∷ []))) b ≡ (has (concat lists) b || (x == b))
has_pushed [] w x b h = absurd (omega arith)
has_pushed (l ∷ ls) zero x b h =
    has-append (l ++ x ∷ []) (concat ls) b
    ∙ ap (λ t. t || has (concat ls) b) (has-append l (x ∷ []) b ∙ ap (λ t. has l b || t) (or-false (x == b)))
    ∙ or_between (has l b) (has (concat ls) b) (x == b)
    ∙ ap (λ t. t || (x == b)) (sym (has-append l (concat ls) b))
has_pushed (l ∷ ls) (suc w) x b h =
    has-append l (concat (set ls w (get_or ls w [] ++ x ∷ []))) b
    ∙ ap (λ t. has l b || t) (has_pushed ls w x b (le_of_suc-le-suc h))
    ∙ sym (or_assoc (has l b) (has (concat ls) b) (x == b))
    ∙ ap (λ t. t || (x == b)) (sym (has-append l (concat ls) b))

-- ---- one attempt

-- what is at the block that is asked about
same_block : (lists : List (List ℕ)) (x b : ℕ) → (x == b) ≡ true → is_claimed lists b ≡ is_claimed lists x
same_block lists x b e = ap (λ y. is_claimed lists y) (sym (same_number x b e))

or_implied : (o c e : Bool) → (e ≡ true → o ≡ c) → c ≡ true → o ≡ (o || e)
or_implied true c e s t = refl
or_implied false c true s t = s refl ∙ t
or_implied false c false s t = refl

claimed_after : (lists : List (List ℕ)) (w x b : ℕ) → w < length lists → is_claimed (attempted lists w x) b ≡ (is_claimed lists b || (x == b))
claimed_after lists w x b h = go (is_claimed lists x) refl
  where
    go : (c : Bool) → is_claimed lists x ≡ c → is_claimed (if c then lists else set lists w (get_or lists w [] ++ x ∷ [])) b ≡ (is_claimed lists b || (x == b))
    go true e = or_implied (is_claimed lists b) (is_claimed lists x) (x == b) (same_block lists x b) e
    go false e = has_pushed lists w x b h

pub length_after : (lists : List (List ℕ)) (w x : ℕ) → length (attempted lists w x) ≡ length lists
length_after lists w x = go (is_claimed lists x)
  where
    go : (c : Bool) → length (if c then lists else set lists w (get_or lists w [] ++ x ∷ [])) ≡ length lists
    go true = refl
    go false = length-set lists w (get_or lists w [] ++ x ∷ [])

-- no block is on the lists more than once
abbrev pub AreOnce : List (List ℕ) → Type 0
AreOnce lists = (b : ℕ) → times b (concat lists) ≡ cond (is_claimed lists b) 1 0

once_pushed : (o e : Bool) (n : ℕ) → n ≡ cond o 1 0 → (e ≡ true → o ≡ false) → n + ((if e then 1 else 0) + 0) ≡ cond (o || e) 1 0
once_pushed true true n a s = absurd (true≢false (s refl))
once_pushed true false n a s = omega arith
once_pushed false true n a s = omega arith
once_pushed false false n a s = omega arith

once_after : (lists : List (List ℕ)) (w x : ℕ) → w < length lists → AreOnce lists → AreOnce (attempted lists w x)
once_after lists w x h once b = go (is_claimed lists x) refl
  where
    go : (c : Bool) → is_claimed lists x ≡ c → times b (concat (if c then lists else set lists w (get_or lists w [] ++ x ∷ []))) ≡ cond (is_claimed (if c then lists else set lists w (get_or lists w [] ++ x ∷ [])) b) 1 0
    go true e = once b
    go false e =
        times_set b lists w (x ∷ []) h
        ∙ once_pushed (is_claimed lists b) (x == b) (times b (concat lists)) (once b) (λ s. same_block lists x b s ∙ e)
        ∙ ap (λ t. cond t 1 0) (sym (has_pushed lists w x b h))

-- what a worker's list holds after it
list_after : (lists : List (List ℕ)) (v w x b : ℕ) → v < length lists → has (get_or (attempted lists v x) w []) b ≡ (has (get_or lists w []) b || (not (is_claimed lists x) && ((v == w) && (x == b))))
list_after lists v w x b h = go (is_claimed lists x) (v == w) refl
  where
    go : (c s : Bool) → (v == w) ≡ s → has (get_or (if c then lists else set lists v (get_or lists v [] ++ x ∷ [])) w []) b ≡ (has (get_or lists w []) b || (not c && (s && (x == b))))
    go true s e = sym (or-false (has (get_or lists w []) b))
    go false true e =
        subst (λ (u : ℕ). has (get_or (set lists v (get_or lists v [] ++ x ∷ [])) u []) b ≡ (has (get_or lists u []) b || (x == b))) (same_number v w e)
        (ap (λ l. has l b) (get_or-set_same lists v (get_or lists v [] ++ x ∷ []) [] h)
        ∙ has-append (get_or lists v []) (x ∷ []) b
        ∙ ap (λ t. has (get_or lists v []) b || t) (or-false (x == b)))
    go false false e =
        ap (λ l. has l b) (get_or-set_other lists v w (get_or lists v [] ++ x ∷ []) [] (other_number v w e))
        ∙ sym (or-false (has (get_or lists w []) b))

-- ---- a run

in_range_after : (lists : List (List ℕ)) (w x : ℕ) (run : List Attempt) → AllByRecursion (λ a. a.worker < length lists) run → AllByRecursion (λ a. a.worker < length (attempted lists w x)) run
in_range_after lists w x run r = subst (λ (n : ℕ). AllByRecursion (λ a. a.worker < n) run) (sym (length_after lists w x)) r

pub claimed_after_run : (lists : List (List ℕ)) (run : List Attempt) → AllByRecursion (λ a. a.worker < length lists) run → (b : ℕ) → is_claimed (after lists run) b ≡ (is_claimed lists b || has (targets_in run) b)
claimed_after_run lists [] r b = sym (or-false (is_claimed lists b))
claimed_after_run lists (a ∷ run) r b =
    claimed_after_run (attempted lists a.worker a.target) run (in_range_after lists a.worker a.target run r.1) b
    ∙ ap (λ t. t || has (targets_in run) b) (claimed_after lists a.worker a.target b r.0)
    ∙ or_assoc (is_claimed lists b) (a.target == b) (has (targets_in run) b)

pub once_after_run : (lists : List (List ℕ)) (run : List Attempt) → AllByRecursion (λ a. a.worker < length lists) run → AreOnce lists → AreOnce (after lists run)
once_after_run lists [] r once = once
once_after_run lists (a ∷ run) r once =
    once_after_run (attempted lists a.worker a.target) run (in_range_after lists a.worker a.target run r.1) (once_after lists a.worker a.target r.0 once)

first_by-cons : (a : Attempt) (w b : ℕ) (run : List Attempt) → is_first_by w b (a ∷ run) ≡ cond (a.target == b) (a.worker == w) (is_first_by w b run)
first_by-cons a w b run = go (a.target == b)
  where
    go : (t : Bool) → option_map_or (λ (x : Attempt). x.worker == w) (cond t (Some a) (find (λ x. x.target == b) run)) false ≡ cond t (a.worker == w) (is_first_by w b run)
    go true = refl
    go false = refl

nor_false : (h o : Bool) → h ≡ (h || (not o && false))
nor_false true o = refl
nor_false false true = refl
nor_false false false = refl

pub list_after_run : (lists : List (List ℕ)) (run : List Attempt) → AllByRecursion (λ a. a.worker < length lists) run → (w b : ℕ) → has (get_or (after lists run) w []) b ≡ (has (get_or lists w []) b || (not (is_claimed lists b) && is_first_by w b run))
list_after_run lists [] r w b = nor_false (has (get_or lists w []) b) (is_claimed lists b)
list_after_run lists (a ∷ run) r w b =
    list_after_run (attempted lists a.worker a.target) run (in_range_after lists a.worker a.target run r.1) w b
    ∙ ap (λ t. t || (not (is_claimed (attempted lists a.worker a.target) b) && is_first_by w b run)) (list_after lists a.worker w a.target b r.0)
    ∙ ap (λ t. (has (get_or lists w []) b || (not (is_claimed lists a.target) && ((a.worker == w) && (a.target == b)))) || (not t && is_first_by w b run)) (claimed_after lists a.worker a.target b r.0)
    ∙ combine (has (get_or lists w []) b) (is_claimed lists a.target) (a.worker == w) (a.target == b) (is_claimed lists b) (is_first_by w b run) (same_block lists a.target b)
    ∙ ap (λ t. has (get_or lists w []) b || (not (is_claimed lists b) && t)) (sym (first_by-cons a w b run))

-- ---- from empty lists

pub nothing_held : (n : ℕ) → concat (replicate n []) ≡ []
nothing_held zero = refl
nothing_held (suc n) = nothing_held n

pub nothing_claimed : (n b : ℕ) → is_claimed (replicate n []) b ≡ false
nothing_claimed n b = ap (λ l. has l b) (nothing_held n)

pub nothing_twice : (n : ℕ) → AreOnce (replicate n [])
nothing_twice n b = ap (λ l. times b l) (nothing_held n) ∙ ap (λ t. cond t 1 0) (sym (nothing_claimed n b))

pub in_range_of : (n : ℕ) (run : List Attempt) → AllByRecursion (λ a. a.worker < n) run → AllByRecursion (λ a. a.worker < length {A = List ℕ} (replicate n [])) run
in_range_of n run r = subst (λ (m : ℕ). AllByRecursion (λ a. a.worker < m) run) (sym (length-replicate {A = List ℕ} n [])) r
