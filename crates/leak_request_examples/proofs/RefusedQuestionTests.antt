-- Questions of who holds the memory that are refused, by the values that clap found.
use Rattle.std.proofs.Common.{ap, ◌≡◌, ◌⊎◌, ℕ, inl, inr, Bool, true, false, List, [], ◌∷◌, codes, map, Option, Some, None, refl, sym, subst, ◌∙◌}
use Rattle.std.specs.Prelude.{IsSome, IsSomeAnd}
use Rattle.clap.specs.Words.{Row, Text, first_of}
use Rattle.clap.specs.Faults.{fault_of}
use Rattle.leak_holders.specs.declared.question.Question.{Question}
use Rattle.leak_holders.specs.declared.question.Side.{Side}
use Rattle.leak_holders.specs.declared.question.Side.TheVariants as side
use Rattle.leak_request.specs.Address.{IsAddress, IsBadAddress}
use Rattle.leak_request.specs.CommandLine.{command_line, holders_name, path_ids}
use Rattle.leak_request.specs.Displacements.{displace_fault_of}
use Rattle.leak_request.specs.Questions.{AsksBadAddress, IsQuestionAt, IsQuestionFault, other_id, side_id, argument_of}
use Rattle.leak_request.specs.Requests.{HoldersLacks, IsHoldersRefusal, IsListTaken, IsListedBy, IsRequest, list_in}
use Rattle.leak_request.specs.declared.fault.DisplaceFault.{DisplaceFault}
use Rattle.leak_request.specs.declared.fault.AddressArgument.{AddressArgument}
use Rattle.leak_request.specs.declared.fault.AddressArgument.TheVariants as argument
use Rattle.leak_request.specs.declared.fault.UsageFault.{UsageFault}
use Rattle.leak_request.specs.declared.fault.UsageFault.TheVariants as fault
use Rattle.leak_request.specs.declared.options.Request.{Request}
use Rattle.leak_request.specs.declared.options.Request.TheVariants.{Search, Why, Holders, Grow, Text as Shown}
use Rattle.leak_request_examples.specs.Requests.{AreRefused, Planned}
use Rattle.leak_request_examples.proofs.RequestTests.{HasFlag, IsSeen, Values, name_in, rows_in, seen, sees, value_at}
use Rattle.leak_request_examples.proofs.SearchTests.{AreNumbers, HasPlan, flag_value, not_holders, plan_seen}
use Rattle.leak_request_examples.proofs.RefusalTests.{IsRefusedFor, fault_at, no_displace, not_taken, refused, same_displace}
use Rattle.leak_request_examples.proofs.QuestionTests.{bad_address, holders_grow, is_address, why_holders}
use Rattle.leak_request_examples.proofs.HoldersTests.{some_none, holders_refusal, holders_lacks, holders_ids}

-- ---- refused questions

-- what is at the options of a question is refused for this
pub record IsRefusedQuestion (rows : List Row) (reason : UsageFault) : Type 0 where
  pub none : (o : Option Question) → IsQuestionAt rows o → ⊥
  pub is : IsQuestionFault rows reason
  pub only : (f : UsageFault) → IsQuestionFault rows f → f ≡ reason

-- a reason that is no text and no list
abbrev pub IsOfQuestion : UsageFault → Type 0
IsOfQuestion (fault.Words text) = ⊥
IsOfQuestion (fault.Displace d) = ⊥
IsOfQuestion fault.Check = ⊥
IsOfQuestion fault.Sides = Unit {0}
IsOfQuestion fault.Block = Unit {0}
IsOfQuestion (fault.Address a) = Unit {0}
IsOfQuestion fault.NoMemory = ⊥

of_question : (rows : List Row) (f : UsageFault) → IsOfQuestion f → (HoldersLacks rows → ⊥) → IsListTaken rows → IsQuestionFault rows f → IsHoldersRefusal rows f
of_question rows (fault.Words text) of lacks list q = absurd of
of_question rows (fault.Displace d) of lacks list q = absurd of
of_question rows fault.Check of lacks list q = absurd of
of_question rows fault.Sides of lacks list q = (lacks, list, q)
of_question rows fault.Block of lacks list q = (lacks, list, q)
of_question rows (fault.Address a) of lacks list q = (lacks, list, q)
of_question rows fault.NoMemory of lacks list q = absurd of

holders_question : (name : Text) (rows : List Row) (paths : List Text) (n : Planned) (reason : UsageFault) → name ≡ holders_name → map (λ id. first_of id rows) (path_ids false) ≡ map Some paths → HasPlan rows n → list_in rows ≡ None
    → IsOfQuestion reason → IsRefusedQuestion rows reason → IsRefusedFor name rows reason
holders_question name rows paths n reason named there plan list of h = record {
  request = no_request;
  some = λ e. subst IsOfQuestion e of;
  is = inr (inl (named, of_question rows reason of lacks (None, subst (λ (o : Option Text). IsListedBy o None) (sym list) refl) h.is));
  only = λ f q. only f (holders_refusal name rows f named q);
}
  where
    lacks : HoldersLacks rows → ⊥
    lacks l = holders_lacks rows paths n there plan l

    no_request : (r : Request) → IsRequest name rows r → ⊥
    no_request (Search r) q = not_holders r.options.two (sym q.two ∙ named)
    no_request (Why r) q = why_holders (sym q.0 ∙ named)
    no_request (Holders r) q = h.none r.question q.1.question
    no_request (Grow r) q = holders_grow (sym named ∙ q.0)
    no_request (Shown t) q = q

    only : (f : UsageFault) → IsHoldersRefusal rows f → (f ≡ reason) ⊎ (f ≡ fault.NoMemory)
    only (fault.Words t) q = absurd (lacks q.1)
    only (fault.Displace d) q = absurd (subst (λ (o : Option Text). IsSomeAnd o (λ t. displace_fault_of t ≡ Some d)) list q.1)
    only fault.Check q = inl (h.only fault.Check q.2)
    only fault.Sides q = inl (h.only fault.Sides q.2)
    only fault.Block q = inl (h.only fault.Block q.2)
    only (fault.Address a) q = inl (h.only (fault.Address a) q.2)
    only fault.NoMemory q = inr refl

pub refuses_question : (words : List Text) (paths : List Text) (n : Planned) (reason : UsageFault) (held holding : Option Text) (alone : Bool) (v1 v2 v3 v4 v5 v6 v7 v8 v9 : Option Text) (a b c : Text) → fault_of command_line (codes "leak_find" ∷ words) ≡ []
    → seen (path_ids false) holders_ids (codes "leak_find" ∷ words) ≡ Some (holders_name, (map Some paths, (None ∷ v1 ∷ v2 ∷ v3 ∷ v4 ∷ v5 ∷ v6 ∷ v7 ∷ v8 ∷ v9 ∷ held ∷ holding ∷ flag_value alone ∷ [], Some a ∷ Some b ∷ Some c ∷ [])))
    → AreNumbers n a b c → IsOfQuestion reason
    → ((rows : List Row) → first_of (codes "in") rows ≡ held → first_of (codes "of") rows ≡ holding → HasFlag rows (codes "block") alone → IsRefusedQuestion rows reason) → AreRefused words reason
refuses_question words paths n reason held holding alone v1 v2 v3 v4 v5 v6 v7 v8 v9 a b c taken q numbers of h =
    let all : List Text = codes "leak_find" ∷ words in
    let x : IsSeen (path_ids false) holders_ids all holders_name (map Some paths) (None ∷ v1 ∷ v2 ∷ v3 ∷ v4 ∷ v5 ∷ v6 ∷ v7 ∷ v8 ∷ v9 ∷ held ∷ holding ∷ flag_value alone ∷ []) (Some a ∷ Some b ∷ Some c ∷ []) =
    sees (path_ids false) holders_ids all _ _ _ _ taken q in
    refused words reason x.taken (holders_question (name_in all) (rows_in all) paths n reason x.named x.there_is (plan_seen (rows_in all) n a b c x.numbers_are numbers) (value_at 0 _ _ x.values_are) of
    (h (rows_in all) (value_at 10 _ _ x.values_are) (value_at 11 _ _ x.values_are) (value_at 12 _ _ x.values_are)))

-- both sides are asked for
pub refuses_sides : (rows : List Row) (one other : Text) (alone : Bool) → first_of (codes "in") rows ≡ Some one → first_of (codes "of") rows ≡ Some other → HasFlag rows (codes "block") alone → IsRefusedQuestion rows fault.Sides
refuses_sides rows one other alone held holding flag = record { none = none; is = record { held = subst IsSome (sym held) refl; holding = subst IsSome (sym holding) refl }; only = only }
  where
    not_other : (s : Side) → first_of (other_id s) rows ≡ None → ⊥
    not_other side.In e = let x : Some other ≡ None = sym holding ∙ e in cc
    not_other side.Of e = let x : Some one ≡ None = sym held ∙ e in cc

    none : (o : Option Question) → IsQuestionAt rows o → ⊥
    none None q = let x : Some one ≡ None = sym held ∙ q.0.held in cc
    none (Some question) q = not_other question.side q.other

    only : (f : UsageFault) → IsQuestionFault rows f → f ≡ fault.Sides
    only fault.Sides q = refl
    only fault.Block q = absurd (let x : Some one ≡ None = sym held ∙ q.0.held in cc)
    only (fault.Address a) q = absurd (not_other q.0 q.2.other)
    only (fault.Words t) q = absurd q
    only (fault.Displace d) q = absurd q
    only fault.Check q = absurd q
    only fault.NoMemory q = absurd q

-- no side is asked for, and one block is meant
pub refuses_block : (rows : List Row) → first_of (codes "in") rows ≡ None → first_of (codes "of") rows ≡ None → HasFlag rows (codes "block") true → IsRefusedQuestion rows fault.Block
refuses_block rows held holding flag = record { none = none; is = (record { held = held; holding = holding }, flag); only = only }
  where
    no_text : (s : Side) (P : Text → Type 0) → IsSomeAnd (first_of (side_id s) rows) P → ⊥
    no_text side.In P q = subst (λ (o : Option Text). IsSomeAnd o P) held q
    no_text side.Of P q = subst (λ (o : Option Text). IsSomeAnd o P) holding q

    none : (o : Option Question) → IsQuestionAt rows o → ⊥
    none None q = q.1 flag
    none (Some question) q = no_text question.side (λ text. IsAddress text question.address) q.address

    only : (f : UsageFault) → IsQuestionFault rows f → f ≡ fault.Block
    only fault.Sides q = absurd (some_none (first_of (codes "in") rows) held q.held)
    only fault.Block q = refl
    only (fault.Address a) q = absurd (no_text q.0 IsBadAddress q.2.address)
    only (fault.Words t) q = absurd q
    only (fault.Displace d) q = absurd q
    only fault.Check q = absurd q
    only fault.NoMemory q = absurd q

-- what is held is asked for by a text that is no address
pub refuses_held : (rows : List Row) (text : Text) (alone : Bool) → is_address text ≡ false → first_of (codes "in") rows ≡ Some text → first_of (codes "of") rows ≡ None → HasFlag rows (codes "block") alone → IsRefusedQuestion rows (fault.Address argument.In)
refuses_held rows text alone bad held holding flag = record { none = none; is = (side.In, refl, record { address = subst (λ (o : Option Text). IsSomeAnd o IsBadAddress) (sym held) (bad_address text bad); other = holding }); only = only }
  where
    no_address : (s : Side) (n : ℕ) → IsSomeAnd (first_of (side_id s) rows) (λ t. IsAddress t n) → ⊥
    no_address side.In n q = bad_address text bad n (subst (λ (o : Option Text). IsSomeAnd o (λ t. IsAddress t n)) held q)
    no_address side.Of n q = subst (λ (o : Option Text). IsSomeAnd o (λ t. IsAddress t n)) holding q

    none : (o : Option Question) → IsQuestionAt rows o → ⊥
    none None q = let x : Some text ≡ None = sym held ∙ q.0.held in cc
    none (Some question) q = no_address question.side question.address q.address

    held_only : (a : AddressArgument) (s : Side) → a ≡ argument_of s → AsksBadAddress rows s → fault.Address a ≡ fault.Address argument.In
    held_only a side.In e q = ap fault.Address e
    held_only a side.Of e q = absurd (subst (λ (o : Option Text). IsSomeAnd o IsBadAddress) holding q.address)

    only : (f : UsageFault) → IsQuestionFault rows f → f ≡ fault.Address argument.In
    only fault.Sides q = absurd (some_none (first_of (codes "of") rows) holding q.holding)
    only fault.Block q = absurd (let x : Some text ≡ None = sym held ∙ q.0.held in cc)
    only (fault.Address a) q = held_only a q.0 q.1 q.2
    only (fault.Words t) q = absurd q
    only (fault.Displace d) q = absurd q
    only fault.Check q = absurd q
    only fault.NoMemory q = absurd q

-- a list that is refused, whatever the question is
holders_list : (name : Text) (rows : List Row) (paths : List Text) (n : Planned) (text : Text) (d : DisplaceFault) → name ≡ holders_name → map (λ id. first_of id rows) (path_ids false) ≡ map Some paths → HasPlan rows n
    → list_in rows ≡ Some text → displace_fault_of text ≡ Some d → IsRefusedFor name rows (fault.Displace d)
holders_list name rows paths n text d named there plan list is = record { request = no_request; some = no_displace d; is = inr (inl (named, (lacks, (fault_at rows text d list).1 is))); only = λ f q. only f (holders_refusal name rows f named q) }
  where
    lacks : HoldersLacks rows → ⊥
    lacks l = holders_lacks rows paths n there plan l

    no_request : (r : Request) → IsRequest name rows r → ⊥
    no_request (Search r) q = not_holders r.options.two (sym q.two ∙ named)
    no_request (Why r) q = why_holders (sym q.0 ∙ named)
    no_request (Holders r) q = not_taken rows text d list is _ q.1.reading
    no_request (Grow r) q = holders_grow (sym named ∙ q.0)
    no_request (Shown t) q = q

    only : (f : UsageFault) → IsHoldersRefusal rows f → (f ≡ fault.Displace d) ⊎ (f ≡ fault.NoMemory)
    only (fault.Words t) q = absurd (lacks q.1)
    only (fault.Displace e) q = inl (same_displace d e (sym is ∙ (fault_at rows text e list).0 q.1))
    only fault.Check q = absurd (not_taken rows text d list is q.1.0 q.1.1)
    only fault.Sides q = absurd (not_taken rows text d list is q.1.0 q.1.1)
    only fault.Block q = absurd (not_taken rows text d list is q.1.0 q.1.1)
    only (fault.Address a) q = absurd (not_taken rows text d list is q.1.0 q.1.1)
    only fault.NoMemory q = inr refl

pub refuses_holders_list : (words : List Text) (paths : List Text) (n : Planned) (text : Text) (d : DisplaceFault) (a b c : Text) (more : Values) → fault_of command_line (codes "leak_find" ∷ words) ≡ []
    → seen (path_ids false) holders_ids (codes "leak_find" ∷ words) ≡ Some (holders_name, (map Some paths, (Some text ∷ more, Some a ∷ Some b ∷ Some c ∷ []))) → AreNumbers n a b c → displace_fault_of text ≡ Some d
    → AreRefused words (fault.Displace d)
refuses_holders_list words paths n text d a b c more taken q numbers is =
    let all : List Text = codes "leak_find" ∷ words in
    let s : IsSeen (path_ids false) holders_ids all holders_name (map Some paths) (Some text ∷ more) (Some a ∷ Some b ∷ Some c ∷ []) = sees (path_ids false) holders_ids all _ _ _ _ taken q in
    refused words (fault.Displace d) s.taken (holders_list (name_in all) (rows_in all) paths n text d s.named s.there_is (plan_seen (rows_in all) n a b c s.numbers_are numbers) (value_at 0 _ _ s.values_are) is)
