-- What command lines ask of a search, by the values that clap found.
use Rattle.std.proofs.Common.{◌≡◌, ◌↔◌, ℕ, ◌<◌, ◌≤◌, inl, inr, ⊎_elim, Bool, true, false, ◌&&◌, List, [], ◌∷◌, codes, map, Option, Some, None, refl, sym, ap, subst, ◌∙◌, arith}
use Rattle.std.specs.Prelude.{decimal, slice_index_or}
use Rattle.std.specs.Str.Parse.{without_leading_plus}
use Rattle.clap.specs.Words.{Row, Text, first_of, one_of}
use Rattle.clap.specs.Faults.{fault_of}
use Rattle.leak_index.specs.Readings.{distances_of, listed_by}
use Rattle.leak_pool.specs.Plan.{IsBetween}
use Rattle.leak_request.specs.CommandLine.{command_line, grow_name, holders_name, name_of, path_ids, why_name}
use Rattle.leak_request.specs.Displacements.{displace_fault_of, displacements_of}
use Rattle.leak_request.specs.Requests.{AreAt, AreNumbersAt, IsRefusedAt, IsRequest, IsSearchRefusal, IsSearchRequest, Lacks, LacksNumber, LacksOneOf, list_in}
use Rattle.leak_request.specs.declared.fault.UsageFault.{UsageFault}
use Rattle.leak_request.specs.declared.fault.UsageFault.TheVariants as fault
use Rattle.leak_request.specs.declared.options.Options.{Options}
use Rattle.leak_request.specs.declared.options.Request.{Request}
use Rattle.leak_request.specs.declared.options.Request.TheVariants.{Search, Why, Holders, Grow, Text as Shown}
use Rattle.leak_request.specs.declared.options.SearchRequest.{SearchRequest}
use Rattle.leak_request_examples.specs.Requests.{AskFor, ArePlanned, IsSearch, IsSearchFor, Planned, Reads, Signed}
use Rattle.leak_request_examples.proofs.RequestTests.{name_in, rows_in, AreTaken, number_ids, Values, seen, IsSeen, sees, value_at, request_at, refused_at, HasNumber, number_is, HasList, list_is, no_list_fault, flag_text, HasFlag, given_is, flag_from, flag_to, not_from, not_to, paths_from, paths_to, none_lacks}

-- ---- a search

-- the names of subcommands begin with other letters
pub letters : (a b : Text) (n m : ℕ) → a ≡ b → slice_index_or a 0 0 ≡ n → slice_index_or b 0 0 ≡ m → (n ≡ m → ⊥) → ⊥
letters a b n m same first second differ = differ (sym first ∙ ap (λ (t : Text). slice_index_or t 0 0) same ∙ second)

name_letter : Bool → ℕ
name_letter false = 111
name_letter true = 116

letter_of_name : (two : Bool) → slice_index_or (name_of two) 0 0 ≡ name_letter two
unfolding name_letter
letter_of_name false = refl
letter_of_name true = refl

other_letter : (two : Bool) (m : ℕ) → m < 111 → name_letter two ≡ m → ⊥
unfolding name_letter
other_letter false m h e = omega arith
other_letter true m h e = omega arith

later_letter : (two : Bool) → name_letter two ≡ 119 → ⊥
unfolding name_letter
later_letter false e = omega arith
later_letter true e = omega arith

pub two_is : (a b : Bool) → name_of a ≡ name_of b → b ≡ a
two_is false false e = refl
two_is true true e = refl
two_is false true e = absurd (letters (codes "one") (codes "two") 111 116 e refl refl (λ x. omega arith))
two_is true false e = absurd (letters (codes "two") (codes "one") 116 111 e refl refl (λ x. omega arith))

-- no name of a search is that of another subcommand
pub not_why : (two : Bool) → name_of two ≡ why_name → ⊥
not_why two e = letters (name_of two) why_name (name_letter two) 119 e (letter_of_name two) refl (later_letter two)

pub not_holders : (two : Bool) → name_of two ≡ holders_name → ⊥
not_holders two e = letters (name_of two) holders_name (name_letter two) 104 e (letter_of_name two) refl (other_letter two 104 (omega arith))

pub not_grow : (two : Bool) → name_of two ≡ grow_name → ⊥
not_grow two e = letters (name_of two) grow_name (name_letter two) 103 e (letter_of_name two) refl (other_letter two 103 (omega arith))

-- the values of a plan's options
pub record HasPlan (rows : List Row) (n : Planned) : Type 0 where
  pub workers : HasNumber rows (codes "workers") n.workers
  pub piece : HasNumber rows (codes "piece") n.piece
  pub stack : HasNumber rows (codes "stack") n.stack
  pub workers_between : IsBetween 1 64 n.workers
  pub piece_between : IsBetween 1 65536 n.piece
  pub stack_small : n.stack ≤ 65536

pub plan_from : (rows : List Row) (n : Planned) (o : Options) → HasPlan rows n → AreNumbersAt rows o.plan.workers o.plan.piece o.plan.stack → ArePlanned n o
plan_from rows n o h q = record {
  workers = (number_is rows (codes "workers") n.workers o.plan.workers h.workers).0 q.workers;
  piece = (number_is rows (codes "piece") n.piece o.plan.piece h.piece).0 q.piece;
  stack = (number_is rows (codes "stack") n.stack o.plan.stack h.stack).0 q.stack;
}

pub plan_to : (rows : List Row) (n : Planned) (o : Options) → HasPlan rows n → ArePlanned n o → AreNumbersAt rows o.plan.workers o.plan.piece o.plan.stack
plan_to rows n o h q = record {
  workers = (number_is rows (codes "workers") n.workers o.plan.workers h.workers).1 q.workers;
  piece = (number_is rows (codes "piece") n.piece o.plan.piece h.piece).1 q.piece;
  stack = (number_is rows (codes "stack") n.stack o.plan.stack h.stack).1 q.stack;
}

-- no number is lacking
pub plan_lacks : (rows : List Row) (n : Planned) → HasPlan rows n → LacksNumber rows → ⊥
plan_lacks rows n h lacks = lacks (record { workers = n.workers; piece = n.piece; stack = n.stack }) h.workers_between h.piece_between h.stack_small (record {
  workers = (number_is rows (codes "workers") n.workers n.workers h.workers).1 refl;
  piece = (number_is rows (codes "piece") n.piece n.piece h.piece).1 refl;
  stack = (number_is rows (codes "stack") n.stack n.stack h.stack).1 refl;
})

-- the values of the options that say which words keep a block
pub record HasReads (rows : List Row) (w : Reads) : Type 0 where
  pub list : HasList rows w.listed
  pub ends : HasFlag rows (codes "skip-ends") w.ends
  pub freed : HasFlag rows (codes "skip-freed") w.freed
  pub links : HasFlag rows (codes "skip-links") w.links
  pub slack : HasFlag rows (codes "skip-slack") w.slack
  pub dead : HasFlag rows (codes "skip-dead-stack") w.dead
  pub all_memory : HasFlag rows (codes "all-memory") w.all_memory

-- the values that clap found for a search
pub record HasSearch (name : Text) (rows : List Row) (two : Bool) (paths : List Text) (n : Planned) (w : Reads) (s : Signed) : Type 0 where
  pub named : name ≡ name_of two
  pub there : map (λ id. first_of id rows) (path_ids two) ≡ map Some paths
  pub plan : HasPlan rows n
  pub reads : HasReads rows w
  pub check : HasFlag rows (codes "check") s.check
  pub other_heap : HasFlag rows (codes "other-heap") s.other_heap
  pub strict : HasFlag rows (codes "strict") s.strict
  pub apart : (s.check && s.other_heap) ≡ false

search_from : (name : Text) (rows : List Row) (two : Bool) (paths : List Text) (n : Planned) (w : Reads) (s : Signed) (r : SearchRequest) → HasSearch name rows two paths n w s
    → IsSearchRequest name rows r → IsSearchFor two paths n w s r
search_from name rows two paths n w s r h q =
    let same : r.options.two ≡ two = two_is two r.options.two (sym h.named ∙ q.two) in
    record {
      two_is = same;
      paths_are = paths_from rows (path_ids two) paths r.paths.items h.there (subst (λ (b : Bool). AreAt rows (path_ids b) r.paths.items) same q.paths);
      plan = plan_from rows n r.options h.plan q.numbers;
      reading = record {
        listed = (list_is rows w.listed (listed_by r.options.reading) h.reads.list).0 q.reading;
        ends = flag_from rows (codes "skip-ends") (distances_of r.options.reading).skips_ends w.ends h.reads.ends q.ends;
        freed = flag_from rows (codes "skip-freed") r.options.skip.freed w.freed h.reads.freed q.freed;
        links = flag_from rows (codes "skip-links") r.options.skip.links w.links h.reads.links q.links;
        slack = flag_from rows (codes "skip-slack") r.options.skip.slack w.slack h.reads.slack q.slack;
        dead = flag_from rows (codes "skip-dead-stack") r.options.skip.dead w.dead h.reads.dead q.dead;
        unwritable = not_from rows (codes "all-memory") r.options.skip.unwritable w.all_memory h.reads.all_memory q.unwritable;
        core_limit = q.core_limit;
        log_limit = q.log_limit;
      };
      signs = record {
        check = flag_from rows (codes "check") r.options.check s.check h.check q.check;
        other_heap = flag_from rows (codes "other-heap") r.options.other_heap s.other_heap h.other_heap q.other_heap;
        strict = flag_from rows (codes "strict") r.options.strict s.strict h.strict q.strict;
      };
    }

apart_is : (a b : Bool) → (a && b) ≡ false → a ≡ true → b ≡ false
apart_is true b e h = e
apart_is false b e h = absurd (let x : false ≡ true = h in cc)

search_to : (name : Text) (rows : List Row) (two : Bool) (paths : List Text) (n : Planned) (w : Reads) (s : Signed) (r : SearchRequest) → HasSearch name rows two paths n w s
    → IsSearchFor two paths n w s r → IsSearchRequest name rows r
search_to name rows two paths n w s r h q = record {
  two = h.named ∙ ap name_of (sym q.two_is);
  paths = subst (λ (b : Bool). AreAt rows (path_ids b) r.paths.items) (sym q.two_is) (paths_to rows (path_ids two) paths r.paths.items h.there q.paths_are);
  numbers = plan_to rows n r.options h.plan q.plan;
  reading = (list_is rows w.listed (listed_by r.options.reading) h.reads.list).1 q.reading.listed;
  ends = flag_to rows (codes "skip-ends") (distances_of r.options.reading).skips_ends w.ends h.reads.ends q.reading.ends;
  freed = flag_to rows (codes "skip-freed") r.options.skip.freed w.freed h.reads.freed q.reading.freed;
  links = flag_to rows (codes "skip-links") r.options.skip.links w.links h.reads.links q.reading.links;
  slack = flag_to rows (codes "skip-slack") r.options.skip.slack w.slack h.reads.slack q.reading.slack;
  dead = flag_to rows (codes "skip-dead-stack") r.options.skip.dead w.dead h.reads.dead q.reading.dead;
  unwritable = not_to rows (codes "all-memory") r.options.skip.unwritable w.all_memory h.reads.all_memory q.reading.unwritable;
  check = flag_to rows (codes "check") r.options.check s.check h.check q.signs.check;
  checked = λ c. q.signs.other_heap ∙ apart_is s.check s.other_heap h.apart (sym q.signs.check ∙ c);
  other_heap = flag_to rows (codes "other-heap") r.options.other_heap s.other_heap h.other_heap q.signs.other_heap;
  strict = flag_to rows (codes "strict") r.options.strict s.strict h.strict q.signs.strict;
  core_limit = q.reading.core_limit;
  log_limit = q.reading.log_limit;
}

search_is : (name : Text) (rows : List Row) (two : Bool) (paths : List Text) (n : Planned) (w : Reads) (s : Signed) (r : Request) → HasSearch name rows two paths n w s
    → IsRequest name rows r ↔ IsSearch two paths n w s r
search_is name rows two paths n w s (Search r) h = ((λ q. search_from name rows two paths n w s r h q), (λ q. search_to name rows two paths n w s r h q))
search_is name rows two paths n w s (Why r) h = ((λ q. not_why two (sym h.named ∙ q.0)), (λ q. absurd q))
search_is name rows two paths n w s (Holders r) h = ((λ q. not_holders two (sym h.named ∙ q.0)), (λ q. absurd q))
search_is name rows two paths n w s (Grow r) h = ((λ q. not_grow two (sym h.named ∙ q.0)), (λ q. absurd q))
search_is name rows two paths n w s (Shown text) h = ((λ q. absurd q), (λ q. absurd q))

-- nothing that a search takes is lacking
pub search_lacks : (name : Text) (rows : List Row) (two : Bool) (paths : List Text) (n : Planned) → name ≡ name_of two → map (λ id. first_of id rows) (path_ids two) ≡ map Some paths → HasPlan rows n
    → Lacks name rows → ⊥
search_lacks name rows two paths n named there plan (inl none) = none two named
search_lacks name rows two paths n named there plan (inr (inl lacks)) =
    none_lacks rows (path_ids two) paths there (subst (λ (b : Bool). LacksOneOf rows (path_ids b)) (two_is two lacks.0 (sym named ∙ lacks.1)) lacks.2)
search_lacks name rows two paths n named there plan (inr (inr lacks)) = plan_lacks rows n plan lacks

-- a refusal of a search is one of what it found
pub search_refusal : (name : Text) (rows : List Row) (two : Bool) (f : UsageFault) → name ≡ name_of two → IsRefusedAt name rows f → IsSearchRefusal name rows f
search_refusal name rows two f named (inl q) = absurd (not_why two (sym named ∙ q.0))
search_refusal name rows two f named (inr (inl q)) = absurd (not_holders two (sym named ∙ q.0))
search_refusal name rows two f named (inr (inr (inl q))) = absurd (not_grow two (sym named ∙ q.0))
search_refusal name rows two f named (inr (inr (inr q))) = q.1

search_taken : (name : Text) (rows : List Row) (two : Bool) (paths : List Text) (n : Planned) (w : Reads) (s : Signed) (f : UsageFault) → HasSearch name rows two paths n w s
    → IsSearchRefusal name rows f → f ≡ fault.NoMemory
search_taken name rows two paths n w s (fault.Words text) h q = absurd (search_lacks name rows two paths n h.named h.there h.plan q.1)
search_taken name rows two paths n w s (fault.Displace f) h q = absurd (no_list_fault rows w.listed h.reads.list f q.1)
search_taken name rows two paths n w s fault.Check h q =
    let a : s.check ≡ true = (given_is rows (codes "check") s.check h.check).0 q.2.check in
    let b : s.other_heap ≡ true = (given_is rows (codes "other-heap") s.other_heap h.other_heap).0 q.2.other_heap in
    absurd (let x : true ≡ false = sym b ∙ apart_is s.check s.other_heap h.apart a in cc)
search_taken name rows two paths n w s fault.Sides h q = absurd q
search_taken name rows two paths n w s fault.Block h q = absurd q
search_taken name rows two paths n w s (fault.Address a) h q = absurd q
search_taken name rows two paths n w s fault.NoMemory h q = refl

pub asks_search : (words : List Text) (two : Bool) (paths : List Text) (n : Planned) (w : Reads) (s : Signed) → AreTaken (codes "leak_find" ∷ words)
    → HasSearch (name_in (codes "leak_find" ∷ words)) (rows_in (codes "leak_find" ∷ words)) two paths n w s → AskFor words (IsSearch two paths n w s)
asks_search words two paths n w s t h =
    let all : List Text = codes "leak_find" ∷ words in
    record {
      request = λ r.
          let a = request_at all r t in
          let b = search_is (name_in all) (rows_in all) two paths n w s r h in
          ((λ q. b.0 (a.0 q)), (λ q. a.1 (b.1 q)));
      taken = λ f q. ⊎_elim (λ e. search_taken (name_in all) (rows_in all) two paths n w s f h (search_refusal (name_in all) (rows_in all) two f h.named e)) (λ e. e) (refused_at all f t q);
    }

-- ---- the values of each row, seen at once

abbrev pub reading_ids : List Text
reading_ids = codes "displace" ∷ codes "skip-ends" ∷ codes "skip-freed" ∷ codes "skip-links" ∷ codes "skip-slack" ∷ codes "skip-dead-stack" ∷ codes "all-memory" ∷ []

abbrev pub flag_value : Bool → Option Text
flag_value b = Some (flag_text b)

abbrev pub reading_values : Option Text → Reads → Values → Values
reading_values list w more = list ∷ flag_value w.ends ∷ flag_value w.freed ∷ flag_value w.links ∷ flag_value w.slack ∷ flag_value w.dead ∷ flag_value w.all_memory ∷ more

abbrev pub search_ids : List Text
search_ids = codes "displace" ∷ codes "skip-ends" ∷ codes "skip-freed" ∷ codes "skip-links" ∷ codes "skip-slack" ∷ codes "skip-dead-stack" ∷ codes "all-memory"
    ∷ codes "check" ∷ codes "other-heap" ∷ codes "strict" ∷ []

abbrev pub search_values : Option Text → Reads → Signed → Values
search_values list w s = reading_values list w (flag_value s.check ∷ flag_value s.other_heap ∷ flag_value s.strict ∷ [])

-- the text lists these displacements, and none lists none
abbrev pub IsListOf : Option Text → Option (List ℕ) → Type 0
IsListOf None listed = listed ≡ None
IsListOf (Some text) listed = (displace_fault_of text ≡ None) × (listed ≡ Some (displacements_of text))

pub list_from : (rows : List Row) (list : Option Text) (listed : Option (List ℕ)) → list_in rows ≡ list → IsListOf list listed → HasList rows listed
list_from rows None listed e h = inl (e, h)
list_from rows (Some text) listed e h = inr (text, e, h.0, h.1)

-- the texts of a plan's numbers
pub record AreNumbers (n : Planned) (workers piece stack : Text) : Type 0 where
  pub workers_text : without_leading_plus workers ≡ decimal n.workers
  pub piece_text : without_leading_plus piece ≡ decimal n.piece
  pub stack_text : without_leading_plus stack ≡ decimal n.stack
  pub workers_between : IsBetween 1 64 n.workers
  pub piece_between : IsBetween 1 65536 n.piece
  pub stack_small : n.stack ≤ 65536

pub plan_seen : (rows : List Row) (n : Planned) (a b c : Text) → map (λ id. one_of id rows) number_ids ≡ Some a ∷ Some b ∷ Some c ∷ [] → AreNumbers n a b c → HasPlan rows n
plan_seen rows n a b c e h = record {
  workers = record { text = a; is = value_at 0 _ _ e; writes = h.workers_text; small = let x = h.workers_between.to in omega arith };
  piece = record { text = b; is = value_at 1 _ _ e; writes = h.piece_text; small = let x = h.piece_between.to in omega arith };
  stack = record { text = c; is = value_at 2 _ _ e; writes = h.stack_text; small = let x = h.stack_small in omega arith };
  workers_between = h.workers_between;
  piece_between = h.piece_between;
  stack_small = h.stack_small;
}

pub reads_seen : (rows : List Row) (ids : List Text) (list : Option Text) (w : Reads) (more : Values)
    → map (λ id. first_of id rows) (codes "displace" ∷ codes "skip-ends" ∷ codes "skip-freed" ∷ codes "skip-links" ∷ codes "skip-slack" ∷ codes "skip-dead-stack" ∷ codes "all-memory" ∷ ids) ≡ reading_values list w more
    → IsListOf list w.listed → HasReads rows w
reads_seen rows ids list w more e h = record {
  list = list_from rows list w.listed (value_at 0 _ _ e) h;
  ends = value_at 1 _ _ e;
  freed = value_at 2 _ _ e;
  links = value_at 3 _ _ e;
  slack = value_at 4 _ _ e;
  dead = value_at 5 _ _ e;
  all_memory = value_at 6 _ _ e;
}

-- a search by its values
pub sees_search : (words : List Text) (two : Bool) (paths : List Text) (n : Planned) (w : Reads) (s : Signed) (list : Option Text) (a b c : Text)
    → fault_of command_line (codes "leak_find" ∷ words) ≡ [] → seen (path_ids two) search_ids (codes "leak_find" ∷ words) ≡ Some (name_of two, (map Some paths, (search_values list w s, Some a ∷ Some b ∷ Some c ∷ [])))
    → IsListOf list w.listed → AreNumbers n a b c → (s.check && s.other_heap) ≡ false → AskFor words (IsSearch two paths n w s)
sees_search words two paths n w s list a b c taken q lists numbers apart =
    let all : List Text = codes "leak_find" ∷ words in
    let is : IsSeen (path_ids two) search_ids all (name_of two) (map Some paths) (search_values list w s) (Some a ∷ Some b ∷ Some c ∷ []) = sees (path_ids two) search_ids all _ _ _ _ taken q in
    asks_search words two paths n w s is.taken (record {
      named = is.named;
      there = is.there_is;
      plan = plan_seen (rows_in all) n a b c is.numbers_are numbers;
      reads = reads_seen (rows_in all) (codes "check" ∷ codes "other-heap" ∷ codes "strict" ∷ []) list w _ is.values_are lists;
      check = value_at 7 _ _ is.values_are;
      other_heap = value_at 8 _ _ is.values_are;
      strict = value_at 9 _ _ is.values_are;
      apart = apart;
    })
