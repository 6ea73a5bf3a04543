-- One more word that is not 0, in a group that was there or was added.
use Rattle.std.proofs.Common.{◌≡◌, ◌≢◌, ◌∙◌, ℕ, ◌+◌, ◌*◌, ◌/◌, ◌%◌, ◌^◌, ◌<◌, ap, sym, subst, List, [], ◌∷◌, ◌++◌, length, get_or, set, Result, Ok, Err, OnErr, arith}
use Rattle.leak_sparse.specs.declared.group.Group.{Group}
use Rattle.leak_sparse.specs.Groups.{AreGroups, covered, words_of}
use Rattle.leak_sparse.proofs.ChangeLemmas.{covered_are, covered_last, covered_same}
use Rattle.leak_sparse.proofs.BitChangeLemmas.{bit_room, marked, marked_are, marked_words, set_is_marked}

-- the groups that are there, and one for the place after the end
abbrev pub opened : List Group → List ℕ → ℕ → List Group
opened groups kept len = covered groups (len + 1) (length kept)

pub opened_are : (groups : List Group) (kept : List ℕ) (len : ℕ) → AreGroups groups kept len → AreGroups (opened groups kept len) kept len
opened_are groups kept len are = covered_are groups kept len len (len + 1) are (omega arith) (omega arith) (omega arith)

pub is_opened : (groups now : List Group) (kept : List ℕ) (len more count : ℕ) → now ≡ covered groups more count → more ≡ len + 1 → count ≡ length kept → now ≡ opened groups kept len
is_opened groups now kept len more count is end whole = is ∙ ap (λ (n : ℕ). covered groups n count) end ∙ ap (λ (n : ℕ). covered groups (len + 1) n) whole

-- what is written into the place's group
abbrev pub written : List Group → ℕ → Group → List Group
written now len group = set now (len / 64) (record { bits = group.bits + 1 * 2 ^ (len % 64) % 2 ^ 64; before = group.before })

opened_last : (groups : List Group) (kept : List ℕ) (len : ℕ) → len / 64 < length (opened groups kept len)
opened_last groups kept len = covered_last groups len (length kept)

pub push_room : (groups now : List Group) (kept : List ℕ) (len : ℕ) (group : Group) → AreGroups groups kept len → now ≡ opened groups kept len → group ≡ get_or now (len / 64) group → group.bits + 1 * 2 ^ (len % 64) % 2 ^ 64 < 2 ^ 64
push_room groups now kept len group are is read =
    bit_room (opened groups kept len) kept len group (opened_are groups kept len are) (opened_last groups kept len) (subst (λ (gs : List Group). group ≡ get_or gs (len / 64) group) is read)

written_is : (groups now : List Group) (kept : List ℕ) (len : ℕ) (group : Group) → now ≡ opened groups kept len → group ≡ get_or now (len / 64) group → written now len group ≡ marked (opened groups kept len) len
written_is groups now kept len group is read =
    ap (λ (gs : List Group). written gs len group) is
    ∙ set_is_marked (opened groups kept len) len group (opened_last groups kept len) (subst (λ (gs : List Group). group ≡ get_or gs (len / 64) group) is read)

pub pushed_are : (groups now : List Group) (kept all : List ℕ) (len more word : ℕ) (group : Group) → AreGroups groups kept len → now ≡ opened groups kept len → group ≡ get_or now (len / 64) group → more ≡ len + 1 → all ≡ kept ++ word ∷ [] → word ≢ 0
    → AreGroups (written now len group) all more
pushed_are groups now kept all len more word group are is read end whole some =
    subst (λ (n : ℕ). AreGroups (written now len group) all n) (sym end)
    (subst (λ (words : List ℕ). AreGroups (written now len group) words (len + 1)) (sym whole)
    (subst (λ (gs : List Group). AreGroups gs (kept ++ word ∷ []) (len + 1)) (sym (written_is groups now kept len group is read))
    (marked_are (opened groups kept len) kept len word (opened_are groups kept len are) (opened_last groups kept len) some)))

pub pushed_words : (groups now : List Group) (kept all : List ℕ) (len more word : ℕ) (group : Group) → AreGroups groups kept len → now ≡ opened groups kept len → group ≡ get_or now (len / 64) group → more ≡ len + 1 → all ≡ kept ++ word ∷ []
    → words_of (written now len group) all more ≡ words_of groups kept len ++ word ∷ []
pushed_words groups now kept all len more word group are is read end whole =
    ap (λ (n : ℕ). words_of (written now len group) all n) end
    ∙ ap (λ (words : List ℕ). words_of (written now len group) words (len + 1)) whole
    ∙ ap (λ (gs : List Group). words_of gs (kept ++ word ∷ []) (len + 1)) (written_is groups now kept len group is read)
    ∙ marked_words (opened groups kept len) kept len word (opened_are groups kept len are) (opened_last groups kept len)
    ∙ ap (λ (words : List ℕ). words ++ word ∷ []) (covered_same groups kept len (len + 1) are)

-- ---- the word isn't kept, since memory was refused

pub unpushed_are : (groups now : List Group) (kept all : List ℕ) (len : ℕ) → AreGroups groups kept len → now ≡ opened groups kept len → all ≡ kept → AreGroups now all len
unpushed_are groups now kept all len are is same =
    subst (λ (words : List ℕ). AreGroups now words len) (sym same) (subst (λ (gs : List Group). AreGroups gs kept len) (sym is) (opened_are groups kept len are))

pub unpushed_words : (groups now : List Group) (kept all : List ℕ) (len : ℕ) → AreGroups groups kept len → now ≡ opened groups kept len → all ≡ kept → words_of now all len ≡ words_of groups kept len
unpushed_words groups now kept all len are is same =
    ap (λ (words : List ℕ). words_of now words len) same ∙ ap (λ (gs : List Group). words_of gs kept len) is ∙ covered_same groups kept len (len + 1) are

pub on_err : {T E P : Type 0} (r : Result T E) → P → OnErr r P
on_err (Ok x) p = tt
on_err (Err e) p = p
