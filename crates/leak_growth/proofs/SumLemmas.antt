-- Blocks in sum by their texts, block by block.
use Rattle.std.proofs.Common.{◌≡◌, ℕ, ◌+◌, ◌<◌, ◌≤◌, ◌^◌, ◌⊎◌, inl, inr, ⊎_elim, Bool, true, false, not, cond, List, [], ◌∷◌, ◌++◌, length, map, take, get_or, set, filter, bytes_eq, refl, sym, ap, subst, ◌∙◌, arith, replicate}
use Rattle.std.specs.Prelude.{nat_lt}
use Rattle.std.specs.List.Sorted.{IsStrictlySortedBy}
use Rattle.std.specs.Cmp.Lexicographic.{slice_cmp}
use Rattle.std.specs.declared.cmp.Ordering.TheVariants.{Less, Equal}
use Rattle.std.specs.Ordering.{nat_cmp}
use Rattle.std.proofs.lemmas.Bool.{cases_eq, cases_lt, false_from_ne_true}
use Rattle.std.proofs.lemmas.Cmp.{nat_list_cmp_total, tied_itself}
use Rattle.std.proofs.lemmas.List.{take_more, get_or-map, length-map, get_or-set_same, get_or-set_other, length-set, same_lists, length_push, length-take-le}
use Rattle.std.proofs.lemmas.List.Sums.{sum_by_push, sum_by-take-le}
use Rattle.std.proofs.lemmas.List.Filters.{length-filter_both, sum_by-filter_both}
use Rattle.std.proofs.lemmas.Map.Keys.{Less-from_sorted}
use Rattle.std.proofs.lemmas.Slice.Eq.{bytes_eq-Decides}
use denote.Ref.{Bor}
use Rattle.leak_blocks.specs.declared.block.Block.{Block}
use Rattle.leak_report.specs.Totals.{text_at, bytes_of}
use Rattle.leak_report.proofs.Leaks.{filter-push_yes, filter-push_no}
use Rattle.leak_report.specs.Numbered.{text_with, texts_of, bytes_each}
use Rattle.leak_growth.specs.declared.summing.Sizes.{Sizes}
use Rattle.leak_growth.specs.Rows.{new_of, with_text, sizes_of, with_block, sums_of, AreTextsOf}

nothing : Block
nothing = record { start = 0; size = 0; line = 0; caller = (0, 0) }

-- sums of no block
pub no_sums : (log : List ℕ) (after : ℕ) (slices : List (Bor (List ℕ))) → replicate (length slices) (record { blocks = 0; bytes = 0 }) ≡ sums_of log [] after (bytes_each slices)
no_sums log after [] = refl
no_sums log after (s ∷ slices) = ap (λ (ss : List Sizes). record { blocks = 0; bytes = 0 } ∷ ss) (no_sums log after slices)

sizes_push : (bs : List Block) (b : Block) → sizes_of (bs ++ b ∷ []) ≡ with_block (sizes_of bs) b
sizes_push bs b =
    ap (λ (n : ℕ). record { blocks = n; bytes = bytes_of (bs ++ b ∷ []) }) (length_push bs b)
    ∙ ap (λ (n : ℕ). record { blocks = length bs + 1; bytes = n }) (sum_by_push (λ (b : Block). b.size) bs b)

-- an entry that is set is that of one text
set_sums : (f g : List ℕ → Sizes) (texts : List (List ℕ)) (n : ℕ) (v : Sizes) → n < length texts → g (text_with texts n) ≡ v
    → ((k : ℕ) → k < length texts → (k ≡ n → ⊥) → g (text_with texts k) ≡ f (text_with texts k)) → set (map f texts) n v ≡ map g texts
set_sums f g texts n v low here other =
    same_lists (set (map f texts) n v) (map g texts) (length-set (map f texts) n v ∙ length-map texts f ∙ sym (length-map texts g))
    (λ k d h. go k d (omega (arith, h, length-set (map f texts) n v, length-map texts f)) (cases_eq k n))
  where
    go : (k : ℕ) (d : Sizes) → k < length texts → (k ≡ n) ⊎ (k ≡ n → ⊥) → get_or (set (map f texts) n v) k d ≡ get_or (map g texts) k d
    go k d h (inl e) =
        ap (λ (j : ℕ). get_or (set (map f texts) n v) j d) e ∙ get_or-set_same (map f texts) n v d (omega (arith, low, length-map texts f)) ∙ sym here
        ∙ ap (λ (j : ℕ). g (text_with texts j)) (sym e) ∙ sym (get_or-map g texts k [] d h)
    go k d h (inr ne) = get_or-set_other (map f texts) n k v d ne ∙ get_or-map f texts k [] d h ∙ sym (other k h ne) ∙ sym (get_or-map g texts k [] d h)

-- two places of one text are one
pub one_place : (texts : List (List ℕ)) (k n : ℕ) → IsStrictlySortedBy (slice_cmp nat_cmp) texts → k < length texts → n < length texts → text_with texts k ≡ text_with texts n → k ≡ n
one_place texts k n up h i e = ⊎_elim below (λ le. ⊎_elim (λ gt. above gt) (λ ge. omega arith) (cases_lt n k)) (cases_lt k n)
  where
    below : k < n → k ≡ n
    below lt =
        let less : slice_cmp nat_cmp (text_with texts k) (text_with texts n) ≡ Less = Less-from_sorted (slice_cmp nat_cmp) texts k n [] up lt i in
        let tied : slice_cmp nat_cmp (text_with texts k) (text_with texts n) ≡ Equal = ap (λ (t : List ℕ). slice_cmp nat_cmp t (text_with texts n)) e ∙ tied_itself nat_list_cmp_total (text_with texts n) in
        absurd (cc)

    above : n < k → k ≡ n
    above lt =
        let less : slice_cmp nat_cmp (text_with texts n) (text_with texts k) ≡ Less = Less-from_sorted (slice_cmp nat_cmp) texts n k [] up lt h in
        let tied : slice_cmp nat_cmp (text_with texts n) (text_with texts k) ≡ Equal = ap (λ (t : List ℕ). slice_cmp nat_cmp (text_with texts n) t) e ∙ tied_itself nat_list_cmp_total (text_with texts n) in
        absurd (cc)

module _ (log : List ℕ) (blocks : List Block) (after : ℕ) (texts : List (List ℕ)) (numbers : List ℕ) (are : AreTextsOf log blocks texts numbers) (i : ℕ) (d : Block) (h : i < length blocks) where
  long : length numbers ≡ length blocks
  long = sym (length-map numbers (text_with texts)) ∙ ap length are.same ∙ length-map blocks (λ (b : Block). text_at log b.caller)

  pub number_fits : get_or numbers i 0 < length texts
  number_fits = are.below i 0 (omega (arith, h, long))

  text_is : text_with texts (get_or numbers i 0) ≡ text_at log (get_or blocks i d).caller
  text_is =
      sym (get_or-map (text_with texts) numbers i 0 [] (omega (arith, h, long))) ∙ ap (λ (ts : List (List ℕ)). text_with ts i) are.same
      ∙ get_or-map (λ (b : Block). text_at log b.caller) blocks i d [] h

  -- a block that counts, for its text and for another
  pub here : nat_lt after (get_or blocks i d).line ≡ true → (text : List ℕ) → text_at log (get_or blocks i d).caller ≡ text
      → sizes_of (with_text log text (new_of after (take (i + 1) blocks))) ≡ with_block (sizes_of (with_text log text (new_of after (take i blocks)))) (get_or blocks i d)
  here counts text is =
      let b : Block = get_or blocks i d in
      ap (λ (bs : List Block). sizes_of (with_text log text (new_of after bs))) (take_more blocks i d h)
      ∙ ap (λ (bs : List Block). sizes_of (with_text log text bs)) (filter-push_yes (λ (b : Block). nat_lt after b.line) (take i blocks) (get_or blocks i d) counts)
      ∙ ap sizes_of (filter-push_yes (λ (b : Block). bytes_eq (text_at log b.caller) text) (new_of after (take i blocks)) (get_or blocks i d) ((bytes_eq-Decides (text_at log (get_or blocks i d).caller) text).1 is))
      ∙ sizes_push (with_text log text (new_of after (take i blocks))) (get_or blocks i d)

  elsewhere : nat_lt after (get_or blocks i d).line ≡ true → (text : List ℕ) → bytes_eq (text_at log (get_or blocks i d).caller) text ≡ false
      → sizes_of (with_text log text (new_of after (take (i + 1) blocks))) ≡ sizes_of (with_text log text (new_of after (take i blocks)))
  elsewhere counts text differs =
      ap (λ (bs : List Block). sizes_of (with_text log text (new_of after bs))) (take_more blocks i d h)
      ∙ ap (λ (bs : List Block). sizes_of (with_text log text bs)) (filter-push_yes (λ (b : Block). nat_lt after b.line) (take i blocks) (get_or blocks i d) counts)
      ∙ ap sizes_of (filter-push_no (λ (b : Block). bytes_eq (text_at log b.caller) text) (new_of after (take i blocks)) (get_or blocks i d) differs)

  -- a block that doesn't
  pub sums_stay : nat_lt after (get_or blocks i d).line ≡ false → sums_of log (take i blocks) after texts ≡ sums_of log (take (i + 1) blocks) after texts
  sums_stay out =
      ap (λ (bs : List Block). map (λ t. sizes_of (with_text log t bs)) texts)
      (sym (filter-push_no (λ (b : Block). nat_lt after b.line) (take i blocks) (get_or blocks i d) out) ∙ ap (new_of after) (sym (take_more blocks i d h)))

  -- what the sum of the block's text is before it
  pub sum_there : (s : Sizes) → get_or (sums_of log (take i blocks) after texts) (get_or numbers i 0) s
      ≡ sizes_of (with_text log (text_at log (get_or blocks i d).caller) (new_of after (take i blocks)))
  sum_there s =
      get_or-map (λ t. sizes_of (with_text log t (new_of after (take i blocks)))) texts (get_or numbers i 0) [] s number_fits
      ∙ ap (λ t. sizes_of (with_text log t (new_of after (take i blocks)))) text_is

  -- one more block
  pub sums_more : (s : Sizes) → nat_lt after (get_or blocks i d).line ≡ true
      → set (sums_of log (take i blocks) after texts) (get_or numbers i 0) (with_block (get_or (sums_of log (take i blocks) after texts) (get_or numbers i 0) s) (get_or blocks i d))
      ≡ sums_of log (take (i + 1) blocks) after texts
  sums_more s counts =
      set_sums (λ t. sizes_of (with_text log t (new_of after (take i blocks)))) (λ t. sizes_of (with_text log t (new_of after (take (i + 1) blocks)))) texts (get_or numbers i 0)
      (with_block (get_or (sums_of log (take i blocks) after texts) (get_or numbers i 0) s) (get_or blocks i d)) number_fits
      (here counts (text_with texts (get_or numbers i 0)) (sym text_is)
      ∙ ap (λ (z : Sizes). with_block z (get_or blocks i d)) (sym (get_or-map (λ t. sizes_of (with_text log t (new_of after (take i blocks)))) texts (get_or numbers i 0) [] s number_fits)))
      (λ k low ne. elsewhere counts (text_with texts k) (false_from_ne_true (bytes_eq (text_at log (get_or blocks i d).caller) (text_with texts k))
      (λ e. ne (sym (one_place texts (get_or numbers i 0) k are.ascending number_fits low (text_is ∙ (bytes_eq-Decides (text_at log (get_or blocks i d).caller) (text_with texts k)).0 e))))))

  -- the sum of a text has room for one more of its blocks
  pub has_room : (s : Sizes) → nat_lt after (get_or blocks i d).line ≡ true → bytes_of blocks < 2 ^ 64 → length blocks < 2 ^ 64
      → ((get_or (sums_of log (take i blocks) after texts) (get_or numbers i 0) s).blocks + 1 < 2 ^ 64)
      × ((get_or (sums_of log (take i blocks) after texts) (get_or numbers i 0) s).bytes + (get_or blocks i d).size < 2 ^ 64)
  has_room s counts fits few =
      let text : List ℕ = text_at log (get_or blocks i d).caller in
      let all : List Block = take (i + 1) blocks in
      let late : Block → Bool = λ b. nat_lt after b.line in
      let its : Block → Bool = λ b. bytes_eq (text_at log b.caller) text in
      let more : sizes_of (with_text log text (new_of after (take (i + 1) blocks))) ≡ with_block (get_or (sums_of log (take i blocks) after texts) (get_or numbers i 0) s) (get_or blocks i d) =
      here counts text refl ∙ ap (λ (z : Sizes). with_block z (get_or blocks i d)) (sym (sum_there s)) in (
        omega (arith, ap (λ (z : Sizes). z.blocks) more, length-filter_both its (λ b. not (its b)) (λ b. refl) (new_of after all), length-filter_both late (λ b. not (late b)) (λ b. refl) all, length-take-le (i + 1) blocks (omega arith), few),
        omega (arith, ap (λ (z : Sizes). z.bytes) more, sum_by-filter_both its (λ b. not (its b)) (λ b. refl) (λ (b : Block). b.size) (new_of after all), sum_by-filter_both late (λ b. not (late b)) (λ b. refl) (λ (b : Block). b.size) all, sum_by-take-le (λ (b : Block). b.size) blocks (i + 1), fits),
      )

-- all blocks of later lines in sum, with one more and without
module _ (blocks : List Block) (after i : ℕ) (d : Block) (h : i < length blocks) where
  pub sum_more : nat_lt after (get_or blocks i d).line ≡ true
      → with_block (sizes_of (new_of after (take i blocks))) (get_or blocks i d) ≡ sizes_of (new_of after (take (i + 1) blocks))
  sum_more counts =
      sym (ap (λ (bs : List Block). sizes_of (new_of after bs)) (take_more blocks i d h)
      ∙ ap sizes_of (filter-push_yes (λ (b : Block). nat_lt after b.line) (take i blocks) (get_or blocks i d) counts)
      ∙ sizes_push (new_of after (take i blocks)) (get_or blocks i d))

  pub sum_stays : nat_lt after (get_or blocks i d).line ≡ false → sizes_of (new_of after (take i blocks)) ≡ sizes_of (new_of after (take (i + 1) blocks))
  sum_stays out =
      sym (ap (λ (bs : List Block). sizes_of (new_of after bs)) (take_more blocks i d h)
      ∙ ap sizes_of (filter-push_no (λ (b : Block). nat_lt after b.line) (take i blocks) (get_or blocks i d) out))

  pub sum_has_room : nat_lt after (get_or blocks i d).line ≡ true → bytes_of blocks < 2 ^ 64 → length blocks < 2 ^ 64
      → ((sizes_of (new_of after (take i blocks))).blocks + 1 < 2 ^ 64) × ((sizes_of (new_of after (take i blocks))).bytes + (get_or blocks i d).size < 2 ^ 64)
  sum_has_room counts fits few =
      let late : Block → Bool = λ b. nat_lt after b.line in
      let more : with_block (sizes_of (new_of after (take i blocks))) (get_or blocks i d) ≡ sizes_of (new_of after (take (i + 1) blocks)) = sum_more counts in (
        omega (arith, ap (λ (z : Sizes). z.blocks) more, length-filter_both late (λ b. not (late b)) (λ b. refl) (take (i + 1) blocks), length-take-le (i + 1) blocks (omega arith), few),
        omega (arith, ap (λ (z : Sizes). z.bytes) more, sum_by-filter_both late (λ b. not (late b)) (λ b. refl) (λ (b : Block). b.size) (take (i + 1) blocks), sum_by-take-le (λ (b : Block). b.size) blocks (i + 1), fits),
      )
