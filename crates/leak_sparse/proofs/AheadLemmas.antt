-- Groups with zeros up to a place, and one more group for the place itself.
use Rattle.std.proofs.Common.{◌≡◌, ◌∙◌, ℕ, ◌+◌, ◌-◌, ◌/◌, ◌≤◌, ap, sym, List, ◌++◌, length, replicate, arith}
use Rattle.std.proofs.lemmas.List.{append_assoc, length-append, length-replicate, replicate-append-replicate}
use Rattle.leak_sparse.specs.declared.group.Group.{Group}
use Rattle.leak_sparse.specs.Groups.{AreGroups, covered, empty, words_of}
use Rattle.leak_sparse.proofs.ChangeLemmas.{covered_are, covered_words}
use Rattle.leak_sparse.proofs.PushLemmas.{opened}

-- the groups with zeros up to the place
abbrev pub ahead : List Group → List ℕ → ℕ → List Group
ahead groups kept place = covered groups place (length kept)

pub ahead_are : (groups : List Group) (kept : List ℕ) (len count place : ℕ) → AreGroups groups kept len → place ≡ len + count → AreGroups (ahead groups kept place) kept place
ahead_are groups kept len count place are is = covered_are groups kept len place place are (omega (arith, is)) (omega arith) (omega arith)

pub ahead_words : (groups : List Group) (kept : List ℕ) (len count place : ℕ) → AreGroups groups kept len → place ≡ len + count → words_of (ahead groups kept place) kept place ≡ words_of groups kept len ++ replicate count 0
ahead_words groups kept len count place are is =
    ap (λ (n : ℕ). words_of (ahead groups kept place) kept n) is ∙ covered_words groups kept len count place are

-- as many groups are added in two steps
covered_twice : (groups : List Group) (place before : ℕ) → covered (covered groups place before) (place + 1) before ≡ covered groups (place + 1) before
covered_twice groups place before =
    let first = (place + 63) / 64 - length groups in
    let len : length (covered groups place before) ≡ length groups + first = length-append groups (replicate first (empty before)) ∙ ap (λ (n : ℕ). length groups + n) (length-replicate first (empty before)) in
    let second = (place + 1 + 63) / 64 - length (covered groups place before) in
    let both : first + second ≡ (place + 1 + 63) / 64 - length groups = omega (arith, len) in
    append_assoc groups (replicate first (empty before)) (replicate second (empty before))
    ∙ ap (λ (more : List Group). groups ++ more) (replicate-append-replicate first second (empty before) ∙ ap (λ (n : ℕ). replicate n (empty before)) both)

pub is_opened_ahead : (groups now : List Group) (kept : List ℕ) (place more count : ℕ) → now ≡ covered groups more count → more ≡ place + 1 → count ≡ length kept → now ≡ opened (ahead groups kept place) kept place
is_opened_ahead groups now kept place more count is end whole =
    is ∙ ap (λ (n : ℕ). covered groups n count) end ∙ ap (λ (n : ℕ). covered groups (place + 1) n) whole ∙ sym (covered_twice groups place (length kept))
