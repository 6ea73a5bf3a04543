-- What command lines ask of who holds the memory, by the values that clap found.
use Rattle.std.proofs.Common.{◌≡◌, ◌↔◌, ℕ, inl, inr, ⊎_elim, Bool, true, false, List, [], ◌∷◌, ◌++◌, codes, map, Option, Some, None, refl, sym, ap, subst, ◌∙◌}
use Rattle.std.proofs.lemmas.List.{map-append}
use Rattle.std.specs.Prelude.{IsSome, IsSomeAnd}
use Rattle.clap.specs.Words.{Row, Text, first_of}
use Rattle.clap.specs.Faults.{fault_of}
use Rattle.leak_holders.specs.declared.question.Question.{Question}
use Rattle.leak_holders.specs.declared.question.Side.{Side}
use Rattle.leak_holders.specs.declared.question.Side.TheVariants as side
use Rattle.leak_index.specs.Readings.{distances_of, listed_by}
use Rattle.leak_request.specs.Address.{IsAddress, IsBadAddress, value_of}
use Rattle.leak_request.specs.CommandLine.{command_line, holders_name, path_ids}
use Rattle.leak_request.specs.FoundRows.{IsGiven}
use Rattle.leak_request.specs.Questions.{Asks, AsksBadAddress, AsksBothSides, AsksNoSide, IsQuestionAt, IsQuestionFault, other_id, side_id}
use Rattle.leak_request.specs.Requests.{HoldersLacks, IsHoldersRefusal, IsRefusedAt, IsRequest, earlier_ids, holders_path_ids}
use Rattle.leak_request.specs.declared.fault.UsageFault.{UsageFault}
use Rattle.leak_request.specs.declared.fault.UsageFault.TheVariants as fault
use Rattle.leak_request.specs.declared.options.Request.{Request}
use Rattle.leak_request.specs.declared.options.Request.TheVariants.{Search, Why, Holders, Grow, Text as Shown}
use Rattle.leak_request_examples.specs.Requests.{AskFor, Planned, Reads, Signed}
use Rattle.leak_request_examples.specs.Questions.{IsHoldersAsked, with_earlier}
use Rattle.leak_request_examples.proofs.RequestTests.{HasFlag, IsSeen, flag_from, flag_to, given_is, list_is, name_in, no_list_fault, none_lacks, not_to, paths_from, paths_to, refused_at, request_at, rows_in, seen, sees, value_at}
use Rattle.leak_request_examples.proofs.SearchTests.{AreNumbers, HasPlan, HasReads, IsListOf, flag_value, not_holders, plan_from, plan_lacks, plan_seen, plan_to, reading_values, reads_seen}
use Rattle.leak_request_examples.proofs.QuestionTests.{address_at, good_address, holders_grow, is_address, reads_from, why_holders}

-- ---- questions

same_question : (q : Question) (address : ℕ) (s : Side) (alone : Bool) → q.address ≡ address → q.side ≡ s → q.alone ≡ alone → q ≡ record { address = address; side = s; alone = alone }
same_question q address s alone a b c = rw (← a, ← b, ← c) refl

pub some_none : (o : Option Text) → o ≡ None → IsSome o → ⊥
some_none None e some = let x : false ≡ true = some in cc
some_none (Some text) e some = cc

some_same : (a b : Question) → Some a ≡ Some b → a ≡ b
some_same a b e = cc

-- what is at the options of a question
pub record HasQuestion (rows : List Row) (question : Option Question) : Type 0 where
  pub is : (o : Option Question) → IsQuestionAt rows o ↔ (o ≡ question)
  pub no_fault : (f : UsageFault) → IsQuestionFault rows f → ⊥

pub no_question : (rows : List Row) → first_of (codes "in") rows ≡ None → first_of (codes "of") rows ≡ None → HasFlag rows (codes "block") false → HasQuestion rows None
no_question rows held holding flag = record { is = is; no_fault = no_fault }
  where
    not_given : IsGiven rows (codes "block") → ⊥
    not_given g = let x : false ≡ true = (given_is rows (codes "block") false flag).0 g in cc

    none : (q : Question) (s : Side) → q.side ≡ s → Asks rows q → ⊥
    none q side.In e a = subst (λ (o : Option Text). IsSomeAnd o (λ text. IsAddress text q.address)) held (subst (λ (x : Side). IsSomeAnd (first_of (side_id x) rows) (λ text. IsAddress text q.address)) e a.address)
    none q side.Of e a = subst (λ (o : Option Text). IsSomeAnd o (λ text. IsAddress text q.address)) holding (subst (λ (x : Side). IsSomeAnd (first_of (side_id x) rows) (λ text. IsAddress text q.address)) e a.address)

    is : (o : Option Question) → IsQuestionAt rows o ↔ (o ≡ None)
    is None = ((λ x. refl), (λ e. (record { held = held; holding = holding }, not_given)))
    is (Some q) = ((λ x. absurd (none q q.side refl x)), (λ e. absurd (let y : Some q ≡ None = e in cc)))

    no_fault : (f : UsageFault) → IsQuestionFault rows f → ⊥
    no_fault fault.Sides x = some_none (first_of (codes "in") rows) held x.held
    no_fault fault.Block x = not_given x.1
    no_fault (fault.Address a) x = bad x.0 x.2
      where
        bad : (s : Side) → AsksBadAddress rows s → ⊥
        bad side.In y = subst (λ (o : Option Text). IsSomeAnd o IsBadAddress) held y.address
        bad side.Of y = subst (λ (o : Option Text). IsSomeAnd o IsBadAddress) holding y.address
    no_fault (fault.Words text) x = x
    no_fault (fault.Displace d) x = x
    no_fault fault.Check x = x
    no_fault fault.NoMemory x = x

no_side : (rows : List Row) (s : Side) → AsksNoSide rows → first_of (side_id s) rows ≡ None
no_side rows side.In a = a.held
no_side rows side.Of a = a.holding

-- the options of the other side are none, so it is not asked for
same_side : (rows : List Row) (s t : Side) (P : Text → Type 0) → first_of (other_id s) rows ≡ None → IsSomeAnd (first_of (side_id t) rows) P → t ≡ s
same_side rows side.In side.In P none some = refl
same_side rows side.Of side.Of P none some = refl
same_side rows side.In side.Of P none some = absurd (subst (λ (o : Option Text). IsSomeAnd o P) none some)
same_side rows side.Of side.In P none some = absurd (subst (λ (o : Option Text). IsSomeAnd o P) none some)

not_both : (rows : List Row) (s : Side) → first_of (other_id s) rows ≡ None → AsksBothSides rows → ⊥
not_both rows side.In none both = some_none (first_of (codes "of") rows) none both.holding
not_both rows side.Of none both = some_none (first_of (codes "in") rows) none both.held

pub asks_question : (rows : List Row) (s : Side) (digits : List ℕ) (address : ℕ) (alone : Bool) → first_of (side_id s) rows ≡ Some (codes "0x" ++ digits) → first_of (other_id s) rows ≡ None → is_address (codes "0x" ++ digits) ≡ true
    → address ≡ value_of digits → HasFlag rows (codes "block") alone → HasQuestion rows (Some (record { address = address; side = s; alone = alone }))
asks_question rows s digits address alone at none good value flag = record { is = is; no_fault = no_fault }
  where
    question : Question
    question = record { address = address; side = s; alone = alone }

    from : (q : Question) → Asks rows q → q ≡ question
    from q a =
        let same : q.side ≡ s = same_side rows s q.side (λ text. IsAddress text q.address) none a.address in
        same_question q address s alone
        ((address_at (first_of (side_id s) rows) digits address q.address at good value).0 (subst (λ (t : Side). IsSomeAnd (first_of (side_id t) rows) (λ text. IsAddress text q.address)) same a.address))
        same (flag_from rows (codes "block") q.alone alone flag a.alone)

    asks : Asks rows question
    asks = record {
      address = (address_at (first_of (side_id s) rows) digits address address at good value).1 refl;
      other = none;
      alone = flag_to rows (codes "block") alone alone flag refl;
    }

    is : (o : Option Question) → IsQuestionAt rows o ↔ (o ≡ Some question)
    is None = ((λ x. absurd (let e : Some (codes "0x" ++ digits) ≡ None = sym at ∙ no_side rows s x.0 in cc)), (λ e. absurd (let y : None ≡ Some question = e in cc)))
    is (Some q) = ((λ x. ap Some (from q x)), (λ e. subst (Asks rows) (sym (some_same q question e)) asks))

    no_fault : (f : UsageFault) → IsQuestionFault rows f → ⊥
    no_fault fault.Sides x = not_both rows s none x
    no_fault fault.Block x = absurd (let e : Some (codes "0x" ++ digits) ≡ None = sym at ∙ no_side rows s x.0 in cc)
    no_fault (fault.Address a) x =
        good_address (first_of (side_id s) rows) digits address at good value
        (subst (λ (t : Side). IsSomeAnd (first_of (side_id t) rows) IsBadAddress) (same_side rows s x.0 IsBadAddress none x.2.address) x.2.address)
    no_fault (fault.Words text) x = x
    no_fault (fault.Displace d) x = x
    no_fault fault.Check x = x
    no_fault fault.NoMemory x = x

-- ---- who holds the memory

pub record HasHolders (name : Text) (rows : List Row) (paths : List Text) (since : Option Text) (question : Option Question) (n : Planned) (w : Reads) (s : Signed) : Type 0 where
  pub named : name ≡ holders_name
  pub there : map (λ id. first_of id rows) (path_ids false) ≡ map Some paths
  pub since_is : first_of (codes "since") rows ≡ since
  pub asks : HasQuestion rows question
  pub plan : HasPlan rows n
  pub reads : HasReads rows w
  pub check : s.check ≡ false
  pub other_heap : HasFlag rows (codes "other-heap") s.other_heap
  pub strict : HasFlag rows (codes "strict") s.strict

-- the values of all paths, with that of an earlier log
there_with : (rows : List Row) (paths : List Text) (since : Option Text) → map (λ id. first_of id rows) (path_ids false) ≡ map Some paths
    → first_of (codes "since") rows ≡ since → map (λ id. first_of id rows) (path_ids false ++ earlier_ids since) ≡ map Some (with_earlier paths since)
there_with rows paths None there is = there
there_with rows paths (Some path) there is =
    ap (λ (values : List (Option Text)). values ++ first_of (codes "since") rows ∷ []) there
    ∙ ap (λ (value : Option Text). map Some paths ++ value ∷ []) is ∙ sym (map-append Some paths (path ∷ []))

all_there : (rows : List Row) (paths : List Text) (since : Option Text) → map (λ id. first_of id rows) (path_ids false) ≡ map Some paths
    → first_of (codes "since") rows ≡ since → map (λ id. first_of id rows) (holders_path_ids rows) ≡ map Some (with_earlier paths since)
all_there rows paths since there is =
    subst (λ (o : Option Text). map (λ id. first_of id rows) (path_ids false ++ earlier_ids o) ≡ map Some (with_earlier paths since)) (sym is)
    (there_with rows paths since there is)

holders_is : (name : Text) (rows : List Row) (paths : List Text) (since : Option Text) (question : Option Question) (n : Planned) (w : Reads) (s : Signed) (r : Request) → HasHolders name rows paths since question n w s
    → IsRequest name rows r ↔ IsHoldersAsked paths since question n w s r
holders_is name rows paths since question n w s (Search r) h = ((λ q. not_holders r.options.two (sym q.two ∙ h.named)), (λ q. absurd q))
holders_is name rows paths since question n w s (Why r) h = ((λ q. why_holders (sym q.0 ∙ h.named)), (λ q. absurd q))
holders_is name rows paths since question n w s (Holders r) h = (
  (λ q. record {
    two_is = q.1.two;
    paths_are = paths_from rows (holders_path_ids rows) (with_earlier paths since) r.paths.items (all_there rows paths since h.there h.since_is) q.1.paths;
    question_is = (h.asks.is r.question).0 q.1.question;
    plan = plan_from rows n r.options h.plan q.1.numbers;
    reading = reads_from rows w r.options h.reads q.1.reading q.1.ends q.1.freed q.1.links q.1.slack q.1.dead q.1.unwritable q.1.core_limit q.1.log_limit;
    signs = record { check = q.1.check ∙ sym h.check; other_heap = flag_from rows (codes "other-heap") r.options.other_heap s.other_heap h.other_heap q.1.other_heap; strict = flag_from rows (codes "strict") r.options.strict s.strict h.strict q.1.strict };
  }),
  (λ q. (
    h.named,
    record {
      two = q.two_is;
      paths = paths_to rows (holders_path_ids rows) (with_earlier paths since) r.paths.items (all_there rows paths since h.there h.since_is) q.paths_are;
      question = (h.asks.is r.question).1 q.question_is;
      numbers = plan_to rows n r.options h.plan q.plan;
      reading = (list_is rows w.listed (listed_by r.options.reading) h.reads.list).1 q.reading.listed;
      ends = flag_to rows (codes "skip-ends") (distances_of r.options.reading).skips_ends w.ends h.reads.ends q.reading.ends;
      freed = flag_to rows (codes "skip-freed") r.options.skip.freed w.freed h.reads.freed q.reading.freed;
      links = flag_to rows (codes "skip-links") r.options.skip.links w.links h.reads.links q.reading.links;
      slack = flag_to rows (codes "skip-slack") r.options.skip.slack w.slack h.reads.slack q.reading.slack;
      dead = flag_to rows (codes "skip-dead-stack") r.options.skip.dead w.dead h.reads.dead q.reading.dead;
      unwritable = not_to rows (codes "all-memory") r.options.skip.unwritable w.all_memory h.reads.all_memory q.reading.unwritable;
      check = q.signs.check ∙ h.check;
      other_heap = flag_to rows (codes "other-heap") r.options.other_heap s.other_heap h.other_heap q.signs.other_heap;
      strict = flag_to rows (codes "strict") r.options.strict s.strict h.strict q.signs.strict;
      core_limit = q.reading.core_limit;
      log_limit = q.reading.log_limit;
    },
  )),
)
holders_is name rows paths since question n w s (Grow r) h = ((λ q. holders_grow (sym h.named ∙ q.0)), (λ q. absurd q))
holders_is name rows paths since question n w s (Shown text) h = ((λ q. absurd q), (λ q. absurd q))

pub holders_refusal : (name : Text) (rows : List Row) (f : UsageFault) → name ≡ holders_name → IsRefusedAt name rows f → IsHoldersRefusal rows f
holders_refusal name rows f named (inl q) = absurd (why_holders (sym q.0 ∙ named))
holders_refusal name rows f named (inr (inl q)) = q.1
holders_refusal name rows f named (inr (inr (inl q))) = absurd (holders_grow (sym named ∙ q.0))
holders_refusal name rows f named (inr (inr (inr q))) = absurd (q.0.holders named)

pub holders_lacks : (rows : List Row) (paths : List Text) (n : Planned) → map (λ id. first_of id rows) (path_ids false) ≡ map Some paths → HasPlan rows n → HoldersLacks rows → ⊥
holders_lacks rows paths n there plan (inl q) = none_lacks rows (path_ids false) paths there q
holders_lacks rows paths n there plan (inr q) = plan_lacks rows n plan q

holders_taken : (rows : List Row) (paths : List Text) (question : Option Question) (n : Planned) (w : Reads) (f : UsageFault) → map (λ id. first_of id rows) (path_ids false) ≡ map Some paths → HasPlan rows n → HasReads rows w → HasQuestion rows question
    → IsHoldersRefusal rows f → f ≡ fault.NoMemory
holders_taken rows paths question n w (fault.Words t) there plan reads asks q = absurd (holders_lacks rows paths n there plan q.1)
holders_taken rows paths question n w (fault.Displace d) there plan reads asks q = absurd (no_list_fault rows w.listed reads.list d q.1)
holders_taken rows paths question n w fault.Check there plan reads asks q = absurd (asks.no_fault fault.Check q.2)
holders_taken rows paths question n w fault.Sides there plan reads asks q = absurd (asks.no_fault fault.Sides q.2)
holders_taken rows paths question n w fault.Block there plan reads asks q = absurd (asks.no_fault fault.Block q.2)
holders_taken rows paths question n w (fault.Address a) there plan reads asks q = absurd (asks.no_fault (fault.Address a) q.2)
holders_taken rows paths question n w fault.NoMemory there plan reads asks q = refl

abbrev pub holders_ids : List Text
holders_ids = codes "displace" ∷ codes "skip-ends" ∷ codes "skip-freed" ∷ codes "skip-links" ∷ codes "skip-slack" ∷ codes "skip-dead-stack" ∷ codes "all-memory"
    ∷ codes "other-heap" ∷ codes "strict" ∷ codes "since" ∷ codes "in" ∷ codes "of" ∷ codes "block" ∷ []

abbrev pub more_ids : List Text
more_ids = codes "other-heap" ∷ codes "strict" ∷ codes "since" ∷ codes "in" ∷ codes "of" ∷ codes "block" ∷ []

-- the values of a question's options make this question
abbrev pub IsQuestionOf : Option Text → Option Text → Bool → Option Question → Type 0
IsQuestionOf held holding alone question = (rows : List Row) → first_of (codes "in") rows ≡ held → first_of (codes "of") rows ≡ holding → HasFlag rows (codes "block") alone → HasQuestion rows question

pub sees_holders : (words : List Text) (paths : List Text) (since : Option Text) (question : Option Question) (n : Planned) (w : Reads) (s : Signed) (list held holding : Option Text) (alone : Bool) (a b c : Text)
    → fault_of command_line (codes "leak_find" ∷ words) ≡ []
    → seen (path_ids false) holders_ids (codes "leak_find" ∷ words) ≡ Some (holders_name, (map Some paths, (reading_values list w (flag_value s.other_heap ∷ flag_value s.strict ∷ since ∷ held ∷ holding ∷ flag_value alone ∷ []), Some a ∷ Some b ∷ Some c ∷ [])))
    → IsListOf list w.listed → AreNumbers n a b c → s.check ≡ false → IsQuestionOf held holding alone question → AskFor words (IsHoldersAsked paths since question n w s)
sees_holders words paths since question n w s list held holding alone a b c taken q lists numbers check asks =
    let all : List Text = codes "leak_find" ∷ words in
    let x : IsSeen (path_ids false) holders_ids all holders_name (map Some paths) (reading_values list w (flag_value s.other_heap ∷ flag_value s.strict ∷ since ∷ held ∷ holding ∷ flag_value alone ∷ [])) (Some a ∷ Some b ∷ Some c ∷ []) =
    sees (path_ids false) holders_ids all _ _ _ _ taken q in
    let h : HasHolders (name_in all) (rows_in all) paths since question n w s = record {
      named = x.named;
      there = x.there_is;
      since_is = value_at 9 _ _ x.values_are;
      asks = asks (rows_in all) (value_at 10 _ _ x.values_are) (value_at 11 _ _ x.values_are) (value_at 12 _ _ x.values_are);
      plan = plan_seen (rows_in all) n a b c x.numbers_are numbers;
      reads = reads_seen (rows_in all) more_ids list w _ x.values_are lists;
      check = check;
      other_heap = value_at 7 _ _ x.values_are;
      strict = value_at 8 _ _ x.values_are;
    } in
    record {
      request = λ r. let y = request_at all r x.taken in let z = holders_is (name_in all) (rows_in all) paths since question n w s r h in ((λ k. z.0 (y.0 k)), (λ k. y.1 (z.1 k)));
      taken = λ f k. ⊎_elim (λ e. holders_taken (rows_in all) paths question n w f h.there h.plan h.reads h.asks (holders_refusal (name_in all) (rows_in all) f h.named e)) (λ e. e) (refused_at all f x.taken k);
    }
