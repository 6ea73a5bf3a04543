-- What is picked of entries, entry by entry and part by part. Of an entry that is cut off nothing is picked.
use Rattle.std.proofs.Common.{◌≡◌, ℕ, ◌+◌, ◌<◌, ◌≤◌, true, false, List, [], ◌∷◌, ◌++◌, length, get_or, take, Option, Some, None, refl, sym, ap, ◌∙◌, append_assoc, append-nil, take_all}
use Rattle.std.specs.Prelude.{filter_map}
use Rattle.std.specs.List.{cons_option}
use Rattle.std.proofs.lemmas.Grind.{flat_map-append}
use Rattle.std.proofs.lemmas.List.Elements.{filter_map-append}
use Rattle.std.proofs.lemmas.List.{take_more}
use Rattle.leak_elf.specs.declared.segment.NotePart.{NotePart}
use Rattle.leak_elf.specs.Segments.{note_parts_of}
use Rattle.leak_notes.specs.Entry.{Entry, entries_from, following, is_cut}
use Rattle.leak_notes.specs.Threads.{entries, entries_of_parts, first_entry}
use Rattle.leak_notes.proofs.Gathering.{entries_from-whole, entries_from-cut, entries_from-end}

-- what an entry adds, if something is picked of it
abbrev pub added : {X : Type 0} → Option X → List X
added None = []
added (Some s) = s ∷ []

cons_added : {X : Type 0} → (o : Option X) (xs : List X) → cons_option o xs ≡ added o ++ xs
cons_added None xs = refl
cons_added (Some s) xs = refl

module _ {X : Type 0} (pick : Entry → Option X) where
  -- what was picked so far, and what the entries that are left have, are all
  pub entry_more : (all now next : List X) (e : Entry) → (e.bytes ≡ [] → ⊥) → is_cut e ≡ false → next ≡ now ++ added (pick e) → now ++ filter_map pick (entries_from e) ≡ all → next ++ filter_map pick (entries_from (following e)) ≡ all
  entry_more all now next e some whole is left =
      ap (λ (l : List X). l ++ filter_map pick (entries_from (following e))) is
      ∙ append_assoc now (added (pick e)) (filter_map pick (entries_from (following e)))
      ∙ ap (λ (l : List X). now ++ l) (sym (cons_added (pick e) (filter_map pick (entries_from (following e)))) ∙ sym (ap (filter_map pick) (entries_from-whole e some whole)))
      ∙ left

  pub entry_end : (all now : List X) (e : Entry) → e.bytes ≡ [] → now ++ filter_map pick (entries_from e) ≡ all → now ≡ all
  entry_end all now e end left = sym (ap (λ (es : List Entry). now ++ filter_map pick es) (entries_from-end e end) ∙ append-nil now) ∙ left

  pub entry_cut : (all now : List X) (e : Entry) → (e.bytes ≡ [] → ⊥) → is_cut e ≡ true → pick e ≡ None → now ++ filter_map pick (entries_from e) ≡ all → now ≡ all
  entry_cut all now e some cut none left = sym (ap (λ (es : List Entry). now ++ filter_map pick es) (entries_from-cut e some cut) ∙ ap (λ (o : Option X). now ++ cons_option o []) none ∙ append-nil now) ∙ left

  -- what is picked of the first parts
  pub picked_to : List ℕ → ℕ → List X
  picked_to file i = filter_map pick (entries_of_parts file (take i (note_parts_of file)))

  pub picked_none : (file : List ℕ) (items : List X) → items ≡ [] → items ≡ picked_to file 0
  unfolding picked_to
  picked_none file items e = e

  pub picked_more : (file : List ℕ) (i : ℕ) (d : NotePart) (old new : List X) → i < length (note_parts_of file) → new ≡ old ++ filter_map pick (entries_from (first_entry file (get_or (note_parts_of file) i d))) → old ≡ picked_to file i → new ≡ picked_to file (i + 1)
  unfolding picked_to
  picked_more file i d old new h is was =
      let ps = note_parts_of file in
      let p : NotePart = get_or ps i d in
      let cut : entries_of_parts file (take (i + 1) ps) ≡ entries_of_parts file (take i ps) ++ entries_from (first_entry file p) =
      ap (λ (qs : List NotePart). entries_of_parts file qs) (take_more ps i d h)
      ∙ flat_map-append (λ (q : NotePart). entries_from (first_entry file q)) (take i ps) (p ∷ [])
      ∙ ap (λ (es : List Entry). entries_of_parts file (take i ps) ++ es) (append-nil (entries_from (first_entry file p))) in
      is ∙ ap (λ (l : List X). l ++ filter_map pick (entries_from (first_entry file p))) was
      ∙ sym (filter_map-append pick (entries_of_parts file (take i ps)) (entries_from (first_entry file p))) ∙ sym (ap (filter_map pick) cut)

  pub picked_whole : (file : List ℕ) (parts : List NotePart) (i : ℕ) (items : List X) → parts ≡ note_parts_of file → length parts ≤ i → items ≡ picked_to file i → items ≡ filter_map pick (entries file)
  unfolding picked_to
  picked_whole file parts i items is h was =
      let long : length (note_parts_of file) ≤ i = rw is at h in
      was ∙ ap (λ (ps : List NotePart). filter_map pick (entries_of_parts file ps)) (take_all i (note_parts_of file) long)
