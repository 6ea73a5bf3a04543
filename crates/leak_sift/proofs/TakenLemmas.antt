-- Bytes that are taken piece by piece have the words of all of them.
use Rattle.std.proofs.Common.{◌≡◌, ℕ, ◌+◌, ◌*◌, ◌/◌, ◌%◌, ◌^◌, ◌<◌, ◌≤◌, List, [], ◌++◌, length, take, drop, Ok, Err, refl, sym, ap, subst, ◌∙◌, arith}
use Rattle.std.specs.Prelude.{Result, OnErr, OnOk}
use Rattle.std.proofs.lemmas.List.{append_assoc, append-nil, drop_at, length-append, length-drop, length-take-le, take-append-drop, take-append-le, take_at}
use Rattle.std.proofs.lemmas.Result.{on_err_weaker, on_ok_weaker}
use Rattle.std.proofs.Math.Seq.{take-append-add}
use Rattle.leak_elf.specs.declared.segment.Segment.{Segment}
use Rattle.leak_sift.specs.Kept.{Rule}
use Rattle.leak_sift.specs.Sifted.{AreSomeAppended, HasTaken, IsWithin, Sifted, Takes, TakesSome, by_words, end_of, kept_at, sifted}
use Rattle.leak_sift.proofs.WordLemmas.{by_words-append, by_words-few, by_words-same, later, length-by_words}

-- ---- words of all bytes

-- the words of the first groups are the first words
pub words_front : (f : ℕ → ℕ → ℕ) (bytes : List ℕ) (n : ℕ) → 8 * n ≤ length bytes → by_words f (take (8 * n) bytes) ≡ take n (by_words f bytes)
words_front f bytes n h =
    let size = length-take-le (8 * n) bytes h in
    let parts = by_words-append f (take (8 * n) bytes) (drop (8 * n) bytes) n size in
    let count : length (by_words f (take (8 * n) bytes)) ≡ n = omega (arith, length-by_words f (take (8 * n) bytes), size) in
    sym (ap (λ (l : List ℕ). take n (by_words f l)) (sym (take-append-drop (8 * n) bytes)) ∙ ap (take {A = ℕ} n) parts
    ∙ take_at (by_words f (take (8 * n) bytes)) (by_words (later f n) (drop (8 * n) bytes)) n count)

-- the words of complete groups are those of all bytes, if fewer than 8 follow
words_whole : (f : ℕ → ℕ → ℕ) (xs ys : List ℕ) (m : ℕ) → length xs ≡ 8 * m → length ys < 8 → by_words f (xs ++ ys) ≡ by_words f xs
words_whole f xs ys m whole few =
    by_words-append f xs ys m whole ∙ ap (λ (l : List ℕ). by_words f xs ++ l) (by_words-few (later f m) ys few) ∙ append-nil (by_words f xs)

-- ---- one state after another

pub takes_none : (s : Sifted) → Takes s [] s
takes_none s = record { rule = refl; segments = refl; head = refl; taken = λ before h. subst (HasTaken s) (sym (append-nil before)) h }

pub takes_both : (s t u : Sifted) (xs ys : List ℕ) → Takes s xs t → Takes t ys u → Takes s (xs ++ ys) u
takes_both s t u xs ys first second = record {
  rule = second.rule ∙ first.rule;
  segments = second.segments ∙ first.segments;
  head = second.head ∙ first.head;
  taken = λ before h. subst (HasTaken u) (append_assoc before xs ys) (second.taken (before ++ xs) (first.taken before h));
}

-- the bytes, after those that wait, are complete groups and fewer than 8 more
module _ (s t : Sifted) (bytes more rest : List ℕ) (n : ℕ) (cut : s.waiting ++ bytes ≡ more ++ rest) (whole : length more ≡ 8 * n) (few : length rest < 8) where
  module _ (before : List ℕ) (had : HasTaken s before) where
    abbrev front : List ℕ
    front = take (8 * (length before / 8)) before

    abbrev kept : ℕ → ℕ → ℕ
    kept distance word = kept_at s.rule s.segments (s.head + distance) word

    size : length front ≡ 8 * (length before / 8)
    size = length-take-le (8 * (length before / 8)) before (omega arith)

    -- all bytes are those groups, these and the rest
    parts : before ++ bytes ≡ front ++ (more ++ rest)
    parts =
        ap (λ (l : List ℕ). l ++ bytes) (sym (take-append-drop (8 * (length before / 8)) before)) ∙ append_assoc front (drop (8 * (length before / 8)) before) bytes
        ∙ ap (λ (l : List ℕ). front ++ (l ++ bytes)) (sym had.waiting) ∙ ap (λ (l : List ℕ). front ++ l) cut

    words_before : by_words kept front ≡ s.words
    words_before =
        sym (had.words ∙ ap (by_words kept) (sym (take-append-drop (8 * (length before / 8)) before))
        ∙ words_whole kept front (drop (8 * (length before / 8)) before) (length before / 8) size (omega (arith, length-drop (8 * (length before / 8)) before)))

    count : length s.words ≡ length before / 8
    count = ap length had.words ∙ length-by_words kept before

    words_after : by_words (later kept (length before / 8)) (more ++ rest) ≡ sifted s.rule s.segments (s.head + 8 * length s.words) more
    words_after =
        words_whole (later kept (length before / 8)) more rest n whole few
        ∙ by_words-same (later kept (length before / 8)) (λ distance word. kept_at s.rule s.segments (s.head + 8 * length s.words + distance) word) more
        (λ k word h. let there : s.head + (8 * (length before / 8) + 8 * k) ≡ s.head + 8 * length s.words + 8 * k = omega (arith, count) in ap (λ (a : ℕ). kept_at s.rule s.segments a word) there)

    all_words : sifted s.rule s.segments s.head (before ++ bytes) ≡ s.words ++ sifted s.rule s.segments (s.head + 8 * length s.words) more
    all_words =
        ap (by_words kept) parts ∙ by_words-append kept front (more ++ rest) (length before / 8) size
        ∙ ap (λ (l : List ℕ). l ++ by_words (later kept (length before / 8)) (more ++ rest)) words_before ∙ ap (λ (l : List ℕ). s.words ++ l) words_after

    all_waiting : drop (8 * (length (before ++ bytes) / 8)) (before ++ bytes) ≡ rest
    all_waiting =
        let groups : length (before ++ bytes) ≡ 8 * (length before / 8) + 8 * n + length rest = omega (arith, ap length parts, length-append front (more ++ rest), length-append more rest, size, whole) in
        let at : 8 * (length (before ++ bytes) / 8) ≡ length (front ++ more) = omega (arith, groups, length-append front more, size, whole) in
        ap (λ (k : ℕ). drop k (before ++ bytes)) at ∙ ap (drop {A = ℕ} (length (front ++ more))) (parts ∙ sym (append_assoc front more rest)) ∙ drop_at (front ++ more) rest (length (front ++ more)) refl

  pub takes_more : t.rule ≡ s.rule → t.segments ≡ s.segments → t.head ≡ s.head → t.words ≡ s.words ++ sifted s.rule s.segments (s.head + 8 * length s.words) more → t.waiting ≡ rest → Takes s bytes t
  takes_more rule segments head words waiting = record {
    rule = rule;
    segments = segments;
    head = head;
    taken = λ before had. record {
      words = words ∙ sym (all_words before had)
          ∙ ap (λ (r : Rule). sifted r s.segments s.head (before ++ bytes)) (sym rule)
          ∙ ap (λ (l : List Segment). sifted t.rule l s.head (before ++ bytes)) (sym segments)
          ∙ ap (λ (h : ℕ). sifted t.rule t.segments h (before ++ bytes)) (sym head);
      waiting = waiting ∙ sym (all_waiting before had);
    };
  }

-- ---- bytes that wait, bytes that complete a word, and complete words

pub takes_waiting : (s t : Sifted) (bytes : List ℕ) → t.rule ≡ s.rule → t.segments ≡ s.segments → t.head ≡ s.head → t.words ≡ s.words → t.waiting ≡ s.waiting ++ bytes → length s.waiting + length bytes < 8 → Takes s bytes t
takes_waiting s t bytes rule segments head words waiting few =
    let none = by_words-few (λ distance word. kept_at s.rule s.segments (s.head + 8 * length s.words + distance) word) [] (omega arith) in
    takes_more s t bytes [] (s.waiting ++ bytes) 0 refl refl (omega (arith, length-append s.waiting bytes)) rule segments head
    (words ∙ sym (ap (λ (l : List ℕ). s.words ++ l) none ∙ append-nil s.words)) waiting

pub takes_word : (s t : Sifted) (bytes : List ℕ) → t.rule ≡ s.rule → t.segments ≡ s.segments → t.head ≡ s.head → t.words ≡ s.words ++ sifted s.rule s.segments (s.head + 8 * length s.words) (s.waiting ++ bytes) → t.waiting ≡ []
    → length s.waiting + length bytes ≡ 8 → Takes s bytes t
takes_word s t bytes rule segments head words waiting all =
    takes_more s t bytes (s.waiting ++ bytes) [] 1 (sym (append-nil (s.waiting ++ bytes))) (omega (arith, length-append s.waiting bytes)) (omega arith) rule segments head words waiting

pub takes_words : (s t : Sifted) (bytes : List ℕ) → t.rule ≡ s.rule → t.segments ≡ s.segments → t.head ≡ s.head → s.waiting ≡ [] → t.waiting ≡ s.waiting → length bytes % 8 ≡ 0
    → t.words ≡ s.words ++ sifted s.rule s.segments (s.head + 8 * length s.words) bytes → Takes s bytes t
takes_words s t bytes rule segments head none waiting whole words =
    takes_more s t bytes bytes [] (length bytes / 8) (ap (λ (l : List ℕ). l ++ bytes) none ∙ sym (append-nil bytes)) (omega arith) (omega arith) rule segments head words (waiting ∙ none)

-- some of them
pub takes_some_words : (s t : Sifted) (bytes : List ℕ) → t.rule ≡ s.rule → t.segments ≡ s.segments → t.head ≡ s.head → s.waiting ≡ [] → t.waiting ≡ s.waiting
    → AreSomeAppended s.words (sifted s.rule s.segments (s.head + 8 * length s.words) bytes) t.words → TakesSome s bytes t
takes_some_words s t bytes rule segments head none waiting some =
    let kept = λ (distance word : ℕ). kept_at s.rule s.segments (s.head + 8 * length s.words + distance) word in
    let inside : 8 * some.count ≤ length bytes = omega (arith, some.fewer, length-by_words kept bytes) in
    let size = length-take-le (8 * some.count) bytes inside in
    record {
      count = 8 * some.count;
      within = inside;
      taken = takes_words s t (take (8 * some.count) bytes) rule segments head none waiting (omega (arith, size))
          (some.words ∙ ap (λ (l : List ℕ). s.words ++ l) (sym (words_front kept bytes some.count inside)));
    }

-- ---- errors

pub some_of_more : (s t u : Sifted) (first rest : List ℕ) → Takes s first t → TakesSome t rest u → TakesSome s (first ++ rest) u
some_of_more s t u first rest taken some = record {
  count = length first + some.count;
  within = omega (arith, length-append first rest, some.within);
  taken = subst (λ (l : List ℕ). Takes s l u) (sym (take-append-add first rest some.count)) (takes_both s t u first (take some.count rest) taken some.taken);
}

pub some_of_front : (s u : Sifted) (first rest : List ℕ) → TakesSome s first u → TakesSome s (first ++ rest) u
some_of_front s u first rest some = record {
  count = some.count;
  within = omega (arith, length-append first rest, some.within);
  taken = subst (λ (l : List ℕ). Takes s l u) (sym (take-append-le some.count first rest some.within)) some.taken;
}

pub some_none : (s : Sifted) (bytes : List ℕ) → TakesSome s bytes s
some_none s bytes = record { count = 0; within = omega arith; taken = takes_none s }

-- how many words there may be after the call
pub at_most : {E : Type 0} (r : Result (Unit {0}) E) (before more after : List ℕ) → OnOk r (after ≡ before ++ more) → OnErr r (AreSomeAppended before more after) → length after ≤ length before + length more
at_most (Ok x) before more after ok err = omega (arith, ap length ok, length-append before more)
at_most (Err e) before more after ok err =
    omega (arith, ap length err.words, length-append before (take err.count more), length-take-le err.count more (omega (arith, err.fewer)), err.fewer)

-- of one word none is appended at an error
pub none_of_one : (before more after : List ℕ) → length more ≡ 1 → AreSomeAppended before more after → after ≡ before
none_of_one before more after one some =
    let none : some.count ≡ 0 = omega (arith, some.fewer) in
    some.words ∙ ap (λ (n : ℕ). before ++ take n more) none ∙ append-nil before

-- ---- what a call appended

module _ {E : Type 0} (r : Result (Unit {0}) E) (s t : Sifted) (bytes : List ℕ) (offset : ℕ) (there : offset ≡ s.head + 8 * length s.words) (rule : t.rule ≡ s.rule) (segments : t.segments ≡ s.segments) (head : t.head ≡ s.head) where
  abbrev more : List ℕ
  more = sifted s.rule s.segments offset bytes

  more_count : length more ≡ length bytes / 8
  more_count = length-by_words (λ distance word. kept_at s.rule s.segments (offset + distance) word) bytes

  moved : sifted s.rule s.segments offset bytes ≡ sifted s.rule s.segments (s.head + 8 * length s.words) bytes
  moved = ap (λ (o : ℕ). sifted s.rule s.segments o bytes) there

  module _ (none : s.waiting ≡ []) (waiting : t.waiting ≡ s.waiting) (whole : length bytes % 8 ≡ 0) where
    pub words_ok : OnOk r (t.words ≡ s.words ++ sifted s.rule s.segments offset bytes) → OnOk r (Takes s bytes t)
    words_ok ok = on_ok_weaker r (λ words. takes_words s t bytes rule segments head none waiting whole (words ∙ ap (λ (l : List ℕ). s.words ++ l) moved)) ok

    pub words_err : OnErr r (AreSomeAppended s.words (sifted s.rule s.segments offset bytes) t.words) → OnErr r (TakesSome s bytes t)
    words_err err = on_err_weaker r (λ some. takes_some_words s t bytes rule segments head none waiting (subst (λ (l : List ℕ). AreSomeAppended s.words l t.words) moved some)) err

    pub words_end : OnOk r (t.words ≡ s.words ++ sifted s.rule s.segments offset bytes) → OnOk r (end_of t ≡ end_of s + length bytes)
    words_end ok = on_ok_weaker r (λ words. omega (arith, ap (length {A = ℕ}) words, length-append s.words more, more_count, ap (length {A = ℕ}) none, ap (length {A = ℕ}) waiting, head, whole)) ok

    pub words_within : end_of s + length bytes < 2 ^ 64 → OnOk r (t.words ≡ s.words ++ sifted s.rule s.segments offset bytes)
        → OnErr r (AreSomeAppended s.words (sifted s.rule s.segments offset bytes) t.words) → IsWithin t.head t.words t.waiting
    words_within fits ok err =
        let most = at_most r s.words more t.words ok err in
        record { few = omega (arith, ap (length {A = ℕ}) none, ap (length {A = ℕ}) waiting); fits = omega (arith, most, more_count, ap (length {A = ℕ}) none, ap (length {A = ℕ}) waiting, head, fits) }

-- the word that the bytes complete
module _ (s t : Sifted) (bytes word : List ℕ) (offset : ℕ) (there : offset ≡ s.head + 8 * length s.words) (is : word ≡ s.waiting ++ bytes) (all : length s.waiting + length bytes ≡ 8) (head : t.head ≡ s.head) where
  abbrev one : List ℕ
  one = sifted s.rule s.segments offset word

  one_count : length one ≡ 1
  one_count = omega (arith, length-by_words (λ distance number. kept_at s.rule s.segments (offset + distance) number) word, ap (length {A = ℕ}) is, length-append s.waiting bytes, all)

  pub word_none : AreSomeAppended s.words (sifted s.rule s.segments offset word) t.words → t.words ≡ s.words
  word_none some = none_of_one s.words one t.words one_count some

  module _ (words : t.words ≡ s.words ++ sifted s.rule s.segments offset word) (none : t.waiting ≡ []) where
    pub word_ok : t.rule ≡ s.rule → t.segments ≡ s.segments → Takes s bytes t
    word_ok rule segments =
        takes_word s t bytes rule segments head
        (words ∙ ap (λ (o : ℕ). s.words ++ sifted s.rule s.segments o word) there ∙ ap (λ (l : List ℕ). s.words ++ sifted s.rule s.segments (s.head + 8 * length s.words) l) is) none all

    pub word_end : end_of t ≡ end_of s + length bytes
    word_end = omega (arith, ap (length {A = ℕ}) words, length-append s.words one, one_count, ap (length {A = ℕ}) none, head, all)

    pub word_within : end_of s + length bytes < 2 ^ 64 → IsWithin t.head t.words t.waiting
    word_within fits = record { few = omega (arith, ap (length {A = ℕ}) none); fits = omega (arith, word_end, fits) }

-- where no word came and the same bytes wait
pub within_same : (s t : Sifted) → t.head ≡ s.head → t.words ≡ s.words → t.waiting ≡ s.waiting → IsWithin s.head s.words s.waiting → IsWithin t.head t.words t.waiting
within_same s t head words waiting within = record {
  few = omega (arith, ap (length {A = ℕ}) waiting, within.few);
  fits = omega (arith, ap (length {A = ℕ}) waiting, ap (length {A = ℕ}) words, head, within.fits);
}

-- the same state, field by field
pub same_state : (rule rule' : Rule) (segments segments' : List Segment) (head : ℕ) (words words' waiting : List ℕ) → rule' ≡ rule → segments' ≡ segments → words' ≡ words
    → (let s : Sifted = record { rule = rule'; segments = segments'; head = head; words = words'; waiting = waiting } in s) ≡ record { rule = rule; segments = segments; head = head; words = words; waiting = waiting }
same_state rule rule' segments segments' head words words' waiting e f g = rw (e, f, g) refl

-- how many bytes were taken
pub taken_count : (s : Sifted) (bytes : List ℕ) → HasTaken s bytes → 8 * length s.words + length s.waiting ≡ length bytes
taken_count s bytes had =
    omega (arith, ap (length {A = ℕ}) had.words, length-by_words (λ distance word. kept_at s.rule s.segments (s.head + distance) word) bytes, ap (length {A = ℕ}) had.waiting, length-drop (8 * (length bytes / 8)) bytes)
