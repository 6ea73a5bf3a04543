-- What the values are that clap found.
use Rattle.std.proofs.Common.{arith, zero, suc, take, ◌≡◌, ◌<◌, ◌≤◌, ◌^◌, ◌⊎◌, ◌++◌, codes, inl, inr, get_or, map, subst, [], ◌∷◌, ◌∙◌, refl, sym, ap, length, Bool, true, false, List, ℕ, Option, Some, None}
use Rattle.std.proofs.lemmas.List.{get_or-map, length-map}
use Rattle.std.proofs.lemmas.List.Elements.{All-get_or}
use Rattle.std.specs.Borrow.{Bor}
use Rattle.std.specs.Prelude.{Err, IfNone, IfSome, IsSome, IsSomeAnd, Result, Ok, String}
use Rattle.clap.specs.Words.{ReadsOne, Row, Text, first_of}
use Rattle.leak_request.specs.declared.fault.UsageFault.{UsageFault}
use Rattle.leak_request.specs.declared.fault.UsageFault.TheVariants as fault
use Rattle.leak_request.specs.CommandLine.{path_ids}
use Rattle.leak_request.specs.Requests.{AreAt, HasFiles, IsBadBy, IsRequest, LacksOneOf, Writes, earlier_ids, file_count}
use Rattle.leak_request.specs.declared.options.Request.{Request}
use Rattle.leak_request.specs.declared.options.Request.TheVariants.{Search, Why, Holders, Grow, Text as Shown}

-- a number that was read is the one that the text writes
pub number_read : {E : Type 0} (gives : List ℕ → Result ℕ E → Type 0) (r : Option ℕ) (text row : Option (List ℕ)) → text ≡ row
    → (text ≡ None → r ≡ None) → ((t : List ℕ) → text ≡ Some t → ReadsOne gives t r) → ((t : List ℕ) (v : ℕ) → gives t (Ok v) → Writes v t)
    → IfSome r (λ n. IsSomeAnd row (Writes n))
number_read gives None text row same none value reads = tt
number_read gives (Some v) None row same none value reads = let bad = none refl in cc
number_read gives (Some v) (Some t) row same none value reads = rw (← same) (reads t v (value t refl))

-- if no number was read, the text writes none
pub no_number_read : {E : Type 0} (gives : List ℕ → Result ℕ E → Type 0) (r : Option ℕ) (text row : Option (List ℕ)) → text ≡ row
    → ((t : List ℕ) → text ≡ Some t → ReadsOne gives t r) → ((t : List ℕ) (e : E) (n : ℕ) → n < 2 ^ 32 → gives t (Err e) → Writes n t → ⊥)
    → IfNone r ((n : ℕ) → n < 2 ^ 32 → IsSomeAnd row (Writes n) → ⊥)
no_number_read gives (Some v) text row same value reads = tt
no_number_read {E} gives None text None same value reads = λ n fits is. is
no_number_read {E} gives None text (Some t) same value reads = λ n fits is. let got = value t same in reads t got.0 n fits got.1 is

-- a path that isn't there is lacking
pub path_lacks : (rows : List Row) (ids : List (Bor (List ℕ))) (i : ℕ) (d : Bor (List ℕ)) → i < length ids
    → None ≡ first_of (get_or ids i d).now rows → LacksOneOf rows (map (λ id. id.now) ids)
path_lacks rows ids i d low none = λ all.
    let here = All-get_or (λ id. IsSome (first_of id rows)) (map (λ id. id.now) ids) i [] (simp length-map low) all in
    let at : get_or (map (λ (id : Bor (List ℕ)). id.now) ids) i [] ≡ (get_or ids i d).now = get_or-map _ ids i d [] low in
    let some : IsSome (first_of (get_or ids i d).now rows) = subst (λ id. IsSome (first_of id rows)) at here in
    let bad : IsSome {T = List ℕ} None = subst IsSome (sym none) some in cc

-- once all ids were gone through, their values are those of the ids' texts
pub values_of : (rows : List Row) (ids : List (Bor (List ℕ))) (n : ℕ) → length ids ≤ n
    → map (λ id. first_of id.now rows) (take n ids) ≡ map (λ id. first_of id rows) (map (λ id. id.now) ids)
values_of rows [] zero h = refl
values_of rows [] (suc n) h = refl
values_of rows (id ∷ ids) zero h = absurd (omega arith)
values_of rows (id ∷ ids) (suc n) h = ap (λ (rest : List (Option Text)). first_of id.now rows ∷ rest) (values_of rows ids n (omega arith))

-- bad arguments, for a reason
pub bad_by : {Reason : Type 0} (f : UsageFault) → Reason → IsBadBy (Unit {0}) f → IsBadBy Reason f
bad_by (fault.Words text) reason bad = (bad.0, reason)
bad_by (fault.Displace f) reason bad = bad
bad_by fault.Check reason bad = bad
bad_by fault.Sides reason bad = bad
bad_by fault.Block reason bad = bad
bad_by (fault.Address a) reason bad = bad
bad_by fault.NoMemory reason bad = tt

-- there are as many paths as a search reads files
pub paths_of : {A : Type 0} (rows : List Row) (two : Bool) (paths : List (String A)) → AreAt rows (path_ids two) paths → length paths ≡ file_count two
paths_of rows true paths at = sym (length-map paths _) ∙ ap length at
paths_of rows false paths at = sym (length-map paths _) ∙ ap length at

-- with the path of an earlier log, or without it, there are three or two
paths_beside : {A : Type 0} (rows : List Row) (since : Option Text) (paths : List (String A)) → AreAt rows (path_ids false ++ earlier_ids since) paths
    → (length paths ≡ 2) ⊎ (length paths ≡ 3)
paths_beside rows None paths at = inl (sym (length-map paths _) ∙ ap length at)
paths_beside rows (Some path) paths at = inr (sym (length-map paths _) ∙ ap length at)

-- and so there are of any request
pub files_of : (name : Text) (rows : List Row) (r : Request) → IsRequest name rows r → HasFiles r
files_of name rows (Search r) is = paths_of rows r.options.two r.paths.items is.paths
files_of name rows (Why r) is = (is.1.two, paths_of rows false r.paths.items is.1.paths)
files_of name rows (Holders r) is = (is.1.two, paths_beside rows (first_of (codes "since") rows) r.paths.items is.1.paths)
files_of name rows (Grow r) is = sym (length-map r.paths.items _) ∙ ap length is.1.paths
files_of name rows (Shown text) is = absurd is
