-- Stacks that were told of, how low functions go, and the words of threads.
use Rattle.std.proofs.Common.{◌≡◌, ℕ, zero, suc, ◌+◌, ◌-◌, ◌*◌, ◌/◌, ◌<◌, ◌≤◌, ◌^◌, min, Bool, true, false, List, [], ◌∷◌, ◌++◌, length, get_or, drop, Option, Some, None, ◌⊎◌, inl, inr, refl, sym, ap, subst, ◌∙◌, append_assoc, append-nil, add-one, arith}
use Rattle.std.specs.Prelude.{find, filter_map, option_and_then, if◌then◌else◌}
use Rattle.std.specs.List.{cons_option, range_with_len}
use Rattle.std.proofs.lemmas.Bool.Decides.{nat_tests}
use Rattle.std.proofs.Math.Seq.{drop-cons}
use Rattle.leak_elf.specs.declared.segment.Segment.{Segment}
use Rattle.leak_blocks.specs.declared.small.Span.{Span}
use Rattle.leak_notes.specs.declared.stacks.StackRegisters.{StackRegisters}
use Rattle.leak_stacks.specs.declared.stack.Stack.{Stack}
use Rattle.leak_stacks.specs.declared.stack.Told.{Told}
use Rattle.leak_stacks.specs.declared.first.First.{First}
use Rattle.leak_stacks.specs.Stacks.{Has, is_stack, made_from, told_more, told_alone, only, own_stack, stack_at, stack_by}
use Rattle.leak_stacks.specs.Lows.{frame_at, frame_by, is_frame, lower, lowest}
use Rattle.leak_stacks.specs.Dead.{dead_from, take}

-- ---- stacks that were told of

-- what comes of those told of so far and those that are left
abbrev pub ending : Told → List Stack → Option Stack
ending told [] = told_alone told
ending told (s ∷ ss) = ending (told_more told (Some s)) ss

pub ending_more : (told : Told) (o : Option Stack) (ss : List Stack) → ending told (cons_option o ss) ≡ ending (told_more told o) ss
ending_more told None ss = refl
ending_more told (Some s) ss = refl

many_end : (last : Option Stack) (ss : List Stack) → ending (record { last = last; many = true }) ss ≡ None
many_end last [] = refl
many_end last (s ∷ ss) = many_end (Some s) ss

pub ending_only : (ss : List Stack) → ending (record { last = None; many = false }) ss ≡ only ss
ending_only [] = refl
ending_only (s ∷ []) = refl
ending_only (s ∷ t ∷ ss) = many_end (Some t) ss

pub no_stack : (word_at : ℕ → Option ℕ) (t : StackRegisters) (a : ℕ) → word_at a ≡ None → stack_at word_at t a ≡ None
no_stack word_at t a none = rw none refl

-- a word that begins no stack of the thread, whatever the next word is
pub begins_none : (t : StackRegisters) (a : ℕ) (o : Option ℕ) → (a ≡ 0) ⊎ (t.sp < a) → None ≡ option_and_then (stack_by t a) o
begins_none t a None h = refl
begins_none t a (Some n) h = rw (no h) refl
  where
    no : (a ≡ 0) ⊎ (t.sp < a) → is_stack t a n ≡ false
    no (inl z) = rw z refl
    no (inr l) = grind (arith, nat_tests)

-- ---- how low functions go

pub lowest_more : (n : ℕ) (o : Option ℕ) (ms : List ℕ) → lowest n (cons_option o ms) ≡ lowest (lower n o) ms
lowest_more n None ms = refl
lowest_more n (Some m) ms = refl

pub no_frame : (word_at : ℕ → Option ℕ) (k : Stack) (sp a : ℕ) → word_at a ≡ None → frame_at word_at k sp a ≡ None
no_frame word_at k sp a none = rw none refl

not_frame : (k : Stack) (sp p s f z old : ℕ) → (p < s) ⊎ (s < k.begin) → is_frame k sp p s f z old ≡ false
not_frame k sp p s f z old (inl l) = grind (arith, nat_tests)
not_frame k sp p s f z old (inr l) = grind (arith, nat_tests)

-- a word that begins no alternate stack, whatever the other words are
pub frames_none : (k : Stack) (sp p s : ℕ) (x y w : Option ℕ) → (p < s) ⊎ (s < k.begin)
    → None ≡ option_and_then (λ f. option_and_then (λ z. option_and_then (frame_by k sp p s f z) w) y) x
frames_none k sp p s None y w h = refl
frames_none k sp p s (Some f) None w h = refl
frames_none k sp p s (Some f) (Some z) None h = refl
frames_none k sp p s (Some f) (Some z) (Some old) h = rw (not_frame k sp p s f z old h) refl

-- ---- the first segment that has an address

pub not_here : (p : Segment → Bool) (xs : List Segment) (i : ℕ) (d : Segment) → i < length xs → p (get_or xs i d) ≡ false → find p (drop i xs) ≡ find p (drop (i + 1) xs)
not_here p xs i d h other = rw (add-one, drop-cons xs i d, other) refl

pub here : (p : Segment → Bool) (xs : List Segment) (i : ℕ) (d : Segment) → i < length xs → p (get_or xs i d) ≡ true → find p (drop i xs) ≡ Some (get_or xs i d)
here p xs i d h this = rw (drop-cons xs i d, this) refl

-- ---- one thread more

pub dead_more : (word_at : ℕ → Option ℕ) (first : Option First) (room : ℕ) (ts : List StackRegisters) (i : ℕ) (d : StackRegisters) → i < length ts
    → dead_from word_at first room (drop i ts) ≡ (take word_at first room (get_or ts i d)).1 ++ dead_from word_at first (take word_at first room (get_or ts i d)).0 (drop (i + 1) ts)
dead_more word_at first room ts i d h = rw (add-one, drop-cons ts i d) refl

-- ---- a thread's own stack has its stack pointer

is_stack_has : (t : StackRegisters) (a n : ℕ) → is_stack t a n ≡ true → Has (record { begin = a; size = n }) t.sp
is_stack_has t a n h = record { from = grind (arith, nat_tests); to = grind (arith, nat_tests) }

stack_by_has : (t : StackRegisters) (a n : ℕ) (s : Stack) → stack_by t a n ≡ Some s → Has s t.sp
stack_by_has t a n s e = go (is_stack t a n) refl e
  where
    go : (b : Bool) → is_stack t a n ≡ b → (if b then Some (record { begin = a; size = n }) else None) ≡ Some s → Has s t.sp
    go true is f = let same : record { begin = a; size = n } ≡ s = cc in subst (λ (k : Stack). Has k t.sp) same (is_stack_has t a n is)
    go false is f = absurd cc

stack_at_has : (word_at : ℕ → Option ℕ) (t : StackRegisters) (w : ℕ) (s : Stack) → stack_at word_at t w ≡ Some s → Has s t.sp
stack_at_has word_at t w s e = go (word_at w) (word_at (w + 8)) e
  where
    go : (x y : Option ℕ) → option_and_then (λ a. option_and_then (stack_by t a) y) x ≡ Some s → Has s t.sp
    go (Some a) (Some n) f = stack_by_has t a n s f
    go (Some a) None f = absurd cc
    go None y f = absurd cc

first_made : (f : ℕ → Option Stack) (P : Stack → Type 0) → ((a : ℕ) (s : Stack) → f a ≡ Some s → P s) → (xs : List ℕ) (s : Stack) (rest : List Stack) → filter_map f xs ≡ s ∷ rest → P s
first_made f P each [] s rest e = absurd cc
first_made f P each (x ∷ xs) s rest e = go (f x) refl (first_made f P each xs s rest) e
  where
    go : (o : Option Stack) → f x ≡ o → (filter_map f xs ≡ s ∷ rest → P s) → cons_option o (filter_map f xs) ≡ s ∷ rest → P s
    go None is later g = later g
    go (Some t) is later g = let same : t ≡ s = cc in subst P same (each x t is)

only_one : (ss : List Stack) (s : Stack) → only ss ≡ Some s → ss ≡ s ∷ []
only_one [] s e = absurd cc
only_one (t ∷ []) s e = cc
only_one (t ∷ u ∷ ss) s e = absurd cc

pub own_has : (word_at : ℕ → Option ℕ) (t : StackRegisters) (s : Stack) → own_stack word_at t ≡ Some s → Has s t.sp
unfolding own_stack made_from
own_has word_at t s e =
    first_made (stack_at word_at t) (λ (k : Stack). Has k t.sp) (stack_at_has word_at t) (range_with_len t.fs_base (t.fs_base + 4096 - t.fs_base)) s []
    (only_one (filter_map (stack_at word_at t) (range_with_len t.fs_base (t.fs_base + 4096 - t.fs_base))) s e)
