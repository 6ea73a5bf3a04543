-- Taking entries one after another.
use Rattle.std.proofs.Common.{◌≡◌, ℕ, zero, suc, ◌+◌, ◌≤◌, ◌<◌, Bool, true, false, cond, eqb, List, [], ◌∷◌, ◌++◌, length, filter, Option, Some, None, refl, sym, ap, ◌∙◌, append_assoc, length-append, length-drop, append-nil, flat_map, arith}
use Rattle.std.proofs.lemmas.Bool.{ltb-false, ne_eqb, or_parts}
use Rattle.std.proofs.lemmas.Grind.{flat_map-append}
use Rattle.std.proofs.lemmas.List.Elements.{filter-append}
use Rattle.std.proofs.lemmas.List.{nil_from_length}
use Rattle.leak_elf.specs.Refusals.{first_fault}
use Rattle.leak_notes.specs.declared.error.NoteError.{NoteError}
use Rattle.leak_notes.specs.Entry.{Entry, cutting, entries_from, following, entry_size, is_cut, is_status, words_of_entry}
use Rattle.leak_notes.specs.Threads.{Registers, TakesUp, words_of_entries, count_statuses, first_fault_among, entry_faults}

pub words-append : (xs ys : List Entry) → words_of_entries (xs ++ ys) ≡ words_of_entries xs ++ words_of_entries ys
words-append xs ys = flat_map-append words_of_entry xs ys

pub count-append : (xs ys : List Entry) → count_statuses (xs ++ ys) ≡ count_statuses xs + count_statuses ys
count-append xs ys = rw (filter-append is_status xs ys) (length-append (filter is_status xs) (filter is_status ys))

first_behind : (t : Bool) (e : NoteError) (cs ds : List (Bool × NoteError)) → (first_fault cs ≡ None → first_fault (cs ++ ds) ≡ first_fault ds) → cond {A = Option NoteError} t (Some e) (first_fault cs) ≡ None → cond {A = Option NoteError} t (Some e) (first_fault (cs ++ ds)) ≡ first_fault ds
first_behind true e cs ds rec none = absurd cc
first_behind false e cs ds rec none = rec none

-- after conditions that don't hold
pub first_fault-behind : (cs ds : List (Bool × NoteError)) → first_fault cs ≡ None → first_fault (cs ++ ds) ≡ first_fault ds
first_fault-behind [] ds none = refl
first_fault-behind (c ∷ cs) ds none = first_behind c.0 c.1 cs ds (first_fault-behind cs ds) none

first_of_these : (t : Bool) (x e : NoteError) (cs ds : List (Bool × NoteError)) → (first_fault cs ≡ Some e → first_fault (cs ++ ds) ≡ Some e) → cond {A = Option NoteError} t (Some x) (first_fault cs) ≡ Some e → cond {A = Option NoteError} t (Some x) (first_fault (cs ++ ds)) ≡ Some e
first_of_these true x e cs ds rec some = some
first_of_these false x e cs ds rec some = rec some

-- before other conditions
pub first_fault-before : (cs ds : List (Bool × NoteError)) (e : NoteError) → first_fault cs ≡ Some e → first_fault (cs ++ ds) ≡ Some e
first_fault-before [] ds e some = absurd cc
first_fault-before (c ∷ cs) ds e some = first_of_these c.0 c.1 e cs ds (first_fault-before cs ds e) some

pub among-behind : (xs ys : List Entry) → first_fault_among xs ≡ None → first_fault_among (xs ++ ys) ≡ first_fault_among ys
among-behind xs ys none = rw (flat_map-append entry_faults xs ys) (first_fault-behind (flat_map entry_faults xs) (flat_map entry_faults ys) none)

pub among-before : (xs ys : List Entry) (e : NoteError) → first_fault_among xs ≡ Some e → first_fault_among (xs ++ ys) ≡ Some e
among-before xs ys e some = rw (flat_map-append entry_faults xs ys) (first_fault-before (flat_map entry_faults xs) (flat_map entry_faults ys) e some)

pub takes_none : (a : Registers) → TakesUp a a []
takes_none a = record { words = sym (append-nil a.registers); count = omega arith; faultless = refl }

pub takes_more : (a b c : Registers) (xs ys : List Entry) → TakesUp a b xs → TakesUp b c ys → TakesUp a c (xs ++ ys)
takes_more a b c xs ys f g = record {
  words = g.words ∙ (rw (f.words, words-append xs ys) (append_assoc a.registers (words_of_entries xs) (words_of_entries ys)));
  count = let p = f.count in let q = g.count in let r = count-append xs ys in omega arith;
  faultless = among-behind xs ys f.faultless ∙ g.faultless;
}

-- an entry that is not cut off is not empty
whole_is_long : (e : Entry) → is_cut e ≡ false → 12 ≤ length e.bytes
whole_is_long e h = omega (arith, ltb-false (length e.bytes) 12 (or_parts _ _ h).0)

pub following_is_shorter : (e : Entry) → is_cut e ≡ false → length (following e).bytes < length e.bytes
following_is_shorter e h = let l = whole_is_long e h in rw (length-drop (entry_size e) e.bytes) (omega arith)

ends_there : (e : Entry) (n : ℕ) → length e.bytes ≤ 0 → cutting n e ≡ []
ends_there e zero h = refl
ends_there e (suc n) h = let z : length e.bytes ≡ 0 = omega arith in rw z refl

same_step : (e : Entry) (n m : ℕ) (cut : Bool) → is_cut e ≡ cut → (cut ≡ false → cutting n (following e) ≡ cutting m (following e))
    → cond {A = List Entry} cut [] (cutting n (following e)) ≡ cond {A = List Entry} cut [] (cutting m (following e))
same_step e n m true is rec = refl
same_step e n m false is rec = rec refl

-- a bound on the entries of a part makes no difference
cutting_enough : (n m : ℕ) (e : Entry) → length e.bytes ≤ n → length e.bytes ≤ m → cutting n e ≡ cutting m e
cutting_enough zero m e p q = sym (ends_there e m p)
cutting_enough (suc n) zero e p q = ends_there e (suc n) q
cutting_enough (suc n) (suc m) e p q =
    ap (λ (es : List Entry). cond {A = List Entry} (eqb (length e.bytes) 0) [] (e ∷ es))
    (same_step e n m (is_cut e) refl (λ h. let s = following_is_shorter e h in cutting_enough n m (following e) (omega arith) (omega arith)))

-- an entry that is there comes first
first_there : (e : Entry) (n : ℕ) → (e.bytes ≡ [] → ⊥) → cutting (suc n) e ≡ e ∷ cond {A = List Entry} (is_cut e) [] (cutting n (following e))
first_there e n some =
    ap (λ (b : Bool). cond {A = List Entry} b [] (e ∷ cond {A = List Entry} (is_cut e) [] (cutting n (following e))))
    (ne_eqb (length e.bytes) 0 (λ z. some (nil_from_length e.bytes z)))

-- the entries from one that is not cut off
pub entries_from-whole : (e : Entry) → (e.bytes ≡ [] → ⊥) → is_cut e ≡ false → entries_from e ≡ e ∷ entries_from (following e)
unfolding entries_from
entries_from-whole e some h =
    let s = following_is_shorter e h in
    let n = length e.bytes in
    cutting_enough n (suc n) e (omega arith) (omega arith) ∙ first_there e n some
    ∙ ap (λ (b : Bool). e ∷ cond {A = List Entry} b [] (cutting n (following e))) h
    ∙ ap (λ (es : List Entry). e ∷ es) (cutting_enough n (length (following e).bytes) (following e) (omega arith) (omega arith))

pub entries_from-cut : (e : Entry) → (e.bytes ≡ [] → ⊥) → is_cut e ≡ true → entries_from e ≡ e ∷ []
unfolding entries_from
entries_from-cut e some h =
    let n = length e.bytes in
    cutting_enough n (suc n) e (omega arith) (omega arith) ∙ first_there e n some
    ∙ ap (λ (b : Bool). e ∷ cond {A = List Entry} b [] (cutting n (following e))) h

pub entries_from-end : (e : Entry) → e.bytes ≡ [] → entries_from e ≡ []
unfolding entries_from
entries_from-end e h = rw h refl

refused_by : (e : Entry) (x : NoteError) (cut : Bool) → is_cut e ≡ cut → (e.bytes ≡ [] → ⊥) → first_fault_among (e ∷ []) ≡ Some x → first_fault_among (entries_from e) ≡ Some x
refused_by e x true is some fault = rw (entries_from-cut e some is) fault
refused_by e x false is some fault = rw (entries_from-whole e some is) (among-before (e ∷ []) (entries_from (following e)) x fault)

-- the fault of the entry that comes first
pub refused_here : (e : Entry) (x : NoteError) → (e.bytes ≡ [] → ⊥) → first_fault_among (e ∷ []) ≡ Some x → first_fault_among (entries_from e) ≡ Some x
refused_here e x some fault = refused_by e x (is_cut e) refl some fault

-- one more entry is taken
pub record Taken (whole : List Entry) (old new : Registers) (e : Entry) : Type 0 where
  pub done : List Entry
  pub all : whole ≡ done ++ entries_from e
  pub taken : TakesUp old new done

pub taken_first : (old : Registers) (e : Entry) → Taken (entries_from e) old old e
taken_first old e = record { done = []; all = refl; taken = takes_none old }

pub taken_more : (whole : List Entry) (old new more : Registers) (e : Entry) → Taken whole old new e → (e.bytes ≡ [] → ⊥) → is_cut e ≡ false → TakesUp new more (e ∷ []) → Taken whole old more (following e)
taken_more whole old new more e t some h takes = record {
  done = t.done ++ e ∷ [];
  all = t.all ∙ ap (λ (es : List Entry). t.done ++ es) (entries_from-whole e some h) ∙ sym (append_assoc t.done (e ∷ []) (entries_from (following e)));
  taken = takes_more old new more t.done (e ∷ []) t.taken takes;
}

pub taken_all : (whole : List Entry) (old new : Registers) (e : Entry) → Taken whole old new e → e.bytes ≡ [] → TakesUp old new whole
taken_all whole old new e t end =
    let is : whole ≡ t.done = t.all ∙ ap (λ (es : List Entry). t.done ++ es) (entries_from-end e end) ∙ append-nil t.done in
    rw is t.taken

pub taken_refused : (whole : List Entry) (old new : Registers) (e : Entry) (x : NoteError) → Taken whole old new e → (e.bytes ≡ [] → ⊥) → first_fault_among (e ∷ []) ≡ Some x → first_fault_among whole ≡ Some x
taken_refused whole old new e x t some fault = rw t.all (among-behind t.done (entries_from e) t.taken.faultless ∙ refused_here e x some fault)
