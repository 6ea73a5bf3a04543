-- Why command lines are refused, by the values that clap found.
use Rattle.std.proofs.Common.{◌≡◌, ◌↔◌, ◌⊎◌, ℕ, inl, inr, ⊎_elim, Bool, true, false, not, ◌&&◌, List, [], ◌∷◌, codes, map, Option, Some, None, refl, sym, ap, subst, ◌∙◌}
use Rattle.std.specs.Prelude.{IfSome, IsSomeAnd}
use Rattle.clap.specs.Kinds.{IsAmong, Kinds}
use Rattle.clap.specs.declared.error.kind.ErrorKind.{ErrorKind}
use Rattle.clap.specs.declared.error.kind.ErrorKind.TheVariants as kind
use Rattle.clap.specs.Words.{Row, Text, first_of}
use Rattle.clap.specs.Faults.{fault_of}
use Rattle.leak_request.specs.CommandLine.{command_line, name_of, path_ids}
use Rattle.leak_request.specs.Displacements.{displace_fault_of}
use Rattle.leak_request.specs.Requests.{ChecksOtherHeap, IsListFaultAt, IsListedBy, IsOther, IsRefusedAt, IsRequest, IsRequestOf, IsSearchRefusal, IsText as IsTextKind, IsUsageFaultOf, Lacks, list_in}
use Rattle.leak_request.specs.declared.fault.DisplaceFault.{DisplaceFault}
use Rattle.leak_request.specs.declared.fault.UsageFault.{UsageFault}
use Rattle.leak_request.specs.declared.fault.UsageFault.TheVariants as fault
use Rattle.leak_request.specs.declared.options.Request.{Request}
use Rattle.leak_request.specs.declared.options.Request.TheVariants.{Search, Why, Holders, Grow, Text as Shown}
use Rattle.leak_request_examples.specs.Requests.{AreRefused, AreRefusedByClap, AskFor, IsShown, IsText, Planned}
use Rattle.leak_request_examples.proofs.RequestTests.{AreTaken, IsSeen, name_in, refused_at, request_at, rows_in, seen, sees, value_at}
use Rattle.leak_request_examples.proofs.SearchTests.{AreNumbers, HasPlan, flag_value, not_grow, not_holders, not_why, plan_seen, search_ids, search_lacks, search_refusal}

-- ---- words that clap refuses, or answers with a text

-- the kind of a text that is asked for
abbrev pub is_text : ErrorKind → Bool
is_text kind.DisplayHelp = true
is_text kind.DisplayVersion = true
is_text k = false

text_kind : (k : ErrorKind) → IsTextKind k → is_text k ≡ true
text_kind k (inl e) = subst (λ (x : ErrorKind). is_text x ≡ true) (sym e) refl
text_kind k (inr e) = subst (λ (x : ErrorKind). is_text x ≡ true) (sym e) refl

-- there is a kind, and none is of a text
abbrev pub are_plain : Kinds → Bool
are_plain [] = true
are_plain (k ∷ ks) = not (is_text k) && are_plain ks

not_text : (t : Bool) (rest : Bool) → (not t && rest) ≡ true → t ≡ true → ⊥
not_text true rest e h = let x : false ≡ true = e in cc
not_text false rest e h = let x : false ≡ true = h in cc

rest_plain : (t : Bool) (rest : Bool) → (not t && rest) ≡ true → rest ≡ true
rest_plain true rest e = absurd (let x : false ≡ true = e in cc)
rest_plain false rest e = e

none_plain : (kinds : Kinds) (k : ErrorKind) → are_plain kinds ≡ true → IsAmong k kinds → IsTextKind k → ⊥
none_plain [] k t among text = among
none_plain (x ∷ xs) k t (inl e) text = not_text (is_text x) (are_plain xs) t (subst (λ (y : ErrorKind). is_text y ≡ true) e (text_kind k text))
none_plain (x ∷ xs) k t (inr among) text = none_plain xs k (rest_plain (is_text x) (are_plain xs) t) among text

pub clap_refuses : (words : List Text) → (fault_of command_line (codes "leak_find" ∷ words) ≡ [] → ⊥) → are_plain (fault_of command_line (codes "leak_find" ∷ words)) ≡ true → AreRefusedByClap words
clap_refuses words never plain = record { request = λ r q. request r q; only = λ f q. go f q }
  where
    request : (r : Request) → IsRequestOf (codes "leak_find" ∷ words) r → ⊥
    request (Search r) q = never q.taken
    request (Why r) q = never q.taken
    request (Holders r) q = never q.taken
    request (Grow r) q = never q.taken
    request (Shown text) q = none_plain (fault_of command_line (codes "leak_find" ∷ words)) q.0 plain q.1 q.2

    go : (f : UsageFault) → IsUsageFaultOf (codes "leak_find" ∷ words) f → IsText f ⊎ (f ≡ fault.NoMemory)
    go (fault.Words text) q = inl tt
    go (fault.Displace f) q = absurd (never q.0)
    go fault.Check q = absurd (never q.0)
    go fault.Sides q = absurd (never q.0)
    go fault.Block q = absurd (never q.0)
    go (fault.Address a) q = absurd (never q.0)
    go fault.NoMemory q = inr refl

-- there is a kind of refusal
abbrev pub is_refused : Kinds → Bool
is_refused [] = false
is_refused (k ∷ ks) = true

pub refused_by_clap : (words : List Text) → (is_refused (fault_of command_line (codes "leak_find" ∷ words)) && are_plain (fault_of command_line (codes "leak_find" ∷ words))) ≡ true → AreRefusedByClap words
refused_by_clap words t = go (fault_of command_line (codes "leak_find" ∷ words)) refl t
  where
    go : (kinds : Kinds) → fault_of command_line (codes "leak_find" ∷ words) ≡ kinds → (is_refused kinds && are_plain kinds) ≡ true → AreRefusedByClap words
    go [] e h = absurd (let x : false ≡ true = h in cc)
    go (k ∷ ks) e h = clap_refuses words (λ none. let x : k ∷ ks ≡ [] = sym e ∙ none in cc) (ap are_plain e ∙ h)

-- clap answers with a text alone
pub shows : (words : List Text) (k : ErrorKind) → IsTextKind k → fault_of command_line (codes "leak_find" ∷ words) ≡ k ∷ [] → AskFor words IsShown
shows words k text is = record { request = λ r. go r; taken = λ f q. fault_is f q }
  where
    never : fault_of command_line (codes "leak_find" ∷ words) ≡ [] → ⊥
    never none = let x : k ∷ [] ≡ [] = sym is ∙ none in cc

    go : (r : Request) → IsRequestOf (codes "leak_find" ∷ words) r ↔ IsShown r
    go (Search r) = ((λ q. absurd (never q.taken)), (λ q. absurd q))
    go (Why r) = ((λ q. absurd (never q.taken)), (λ q. absurd q))
    go (Holders r) = ((λ q. absurd (never q.taken)), (λ q. absurd q))
    go (Grow r) = ((λ q. absurd (never q.taken)), (λ q. absurd q))
    go (Shown t) = ((λ q. tt), (λ q. (k, subst (IsAmong k) (sym is) (inl refl), text)))

    fault_is : (f : UsageFault) → IsUsageFaultOf (codes "leak_find" ∷ words) f → f ≡ fault.NoMemory
    fault_is (fault.Words t) q = absurd (q.0 k text is)
    fault_is (fault.Displace f) q = absurd (never q.0)
    fault_is fault.Check q = absurd (never q.0)
    fault_is fault.Sides q = absurd (never q.0)
    fault_is fault.Block q = absurd (never q.0)
    fault_is (fault.Address a) q = absurd (never q.0)
    fault_is fault.NoMemory q = refl

-- ---- words that clap takes, and that are refused by what it found

-- to be refused for this is to be refused for what was found
pub refusal_at : (words : List Text) (f : UsageFault) → AreTaken words → (f ≡ fault.NoMemory → ⊥) → IsRefusedAt (name_in words) (rows_in words) f → IsUsageFaultOf words f
refusal_at words (fault.Words text) t some q = ((λ k text e. let x : [] ≡ k ∷ [] = sym t.taken ∙ e in cc), λ e. subst (λ (o : Option (Text × List Row)). IfSome o (λ met. IsRefusedAt met.0 met.1 (fault.Words text))) (sym t.met) q)
refusal_at words (fault.Displace f) t some q = (t.taken, subst (λ (o : Option (Text × List Row)). IsSomeAnd o (λ met. IsRefusedAt met.0 met.1 (fault.Displace f))) (sym t.met) q)
refusal_at words fault.Check t some q = (t.taken, subst (λ (o : Option (Text × List Row)). IsSomeAnd o (λ met. IsRefusedAt met.0 met.1 fault.Check)) (sym t.met) q)
refusal_at words fault.Sides t some q = (t.taken, subst (λ (o : Option (Text × List Row)). IsSomeAnd o (λ met. IsRefusedAt met.0 met.1 fault.Sides)) (sym t.met) q)
refusal_at words fault.Block t some q = (t.taken, subst (λ (o : Option (Text × List Row)). IsSomeAnd o (λ met. IsRefusedAt met.0 met.1 fault.Block)) (sym t.met) q)
refusal_at words (fault.Address a) t some q = (t.taken, subst (λ (o : Option (Text × List Row)). IsSomeAnd o (λ met. IsRefusedAt met.0 met.1 (fault.Address a))) (sym t.met) q)
refusal_at words fault.NoMemory t some q = absurd (some refl)

-- what was found makes no request, and is refused for this alone
pub record IsRefusedFor (name : Text) (rows : List Row) (reason : UsageFault) : Type 0 where
  pub request : (r : Request) → IsRequest name rows r → ⊥
  pub some : reason ≡ fault.NoMemory → ⊥
  pub is : IsRefusedAt name rows reason
  pub only : (f : UsageFault) → IsRefusedAt name rows f → (f ≡ reason) ⊎ (f ≡ fault.NoMemory)

pub refused : (words : List Text) (reason : UsageFault) → AreTaken (codes "leak_find" ∷ words) → IsRefusedFor (name_in (codes "leak_find" ∷ words)) (rows_in (codes "leak_find" ∷ words)) reason → AreRefused words reason
refused words reason t h =
    let all : List Text = codes "leak_find" ∷ words in
    record {
      request = λ r q. h.request r ((request_at all r t).0 q);
      is = refusal_at all reason t h.some h.is;
      only = λ f q. ⊎_elim (λ e. h.only f e) (λ e. inr e) (refused_at all f t q);
    }

pub no_displace : (d : DisplaceFault) → fault.Displace d ≡ fault.NoMemory → ⊥
no_displace d e = cc

pub same_displace : (d e : DisplaceFault) → Some d ≡ Some e → fault.Displace e ≡ fault.Displace d
same_displace d e s = cc

pub fault_at : (rows : List Row) (text : Text) (d : DisplaceFault) → list_in rows ≡ Some text → IsListFaultAt rows d ↔ (displace_fault_of text ≡ Some d)
fault_at rows text d e =
    ((λ q. subst (λ (o : Option Text). IsSomeAnd o (λ t. displace_fault_of t ≡ Some d)) e q), (λ q. subst (λ (o : Option Text). IsSomeAnd o (λ t. displace_fault_of t ≡ Some d)) (sym e) q))

pub not_taken : (rows : List Row) (text : Text) (d : DisplaceFault) → list_in rows ≡ Some text → displace_fault_of text ≡ Some d → (listed : Option (List ℕ)) → IsListedBy (list_in rows) listed → ⊥
not_taken rows text d e is listed q = let x : None ≡ Some d = sym (subst (λ (o : Option Text). IsListedBy o listed) e q).0 ∙ is in cc

-- the name of a search is that of no other subcommand
search_is_other : (name : Text) (two : Bool) → name ≡ name_of two → IsOther name
search_is_other name two named = record { why = λ e. not_why two (sym named ∙ e); holders = λ e. not_holders two (sym named ∙ e); grow = λ e. not_grow two (sym named ∙ e) }

-- a search whose list is refused
search_list : (name : Text) (rows : List Row) (two : Bool) (paths : List Text) (n : Planned) (text : Text) (d : DisplaceFault) → name ≡ name_of two → map (λ id. first_of id rows) (path_ids two) ≡ map Some paths
    → HasPlan rows n → list_in rows ≡ Some text → displace_fault_of text ≡ Some d → IsRefusedFor name rows (fault.Displace d)
search_list name rows two paths n text d named there plan list is = record { request = no_request; some = no_displace d; is = inr (inr (inr (search_is_other name two named, (lacks, (fault_at rows text d list).1 is)))); only = λ f q. only f (search_refusal name rows two f named q) }
  where
    lacks : Lacks name rows → ⊥
    lacks l = search_lacks name rows two paths n named there plan l

    no_request : (r : Request) → IsRequest name rows r → ⊥
    no_request (Search r) q = not_taken rows text d list is _ q.reading
    no_request (Why r) q = not_why two (sym named ∙ q.0)
    no_request (Holders r) q = not_holders two (sym named ∙ q.0)
    no_request (Grow r) q = not_grow two (sym named ∙ q.0)
    no_request (Shown t) q = q

    only : (f : UsageFault) → IsSearchRefusal name rows f → (f ≡ fault.Displace d) ⊎ (f ≡ fault.NoMemory)
    only (fault.Words t) q = absurd (lacks q.1)
    only (fault.Displace e) q = inl (same_displace d e (sym is ∙ (fault_at rows text e list).0 q.1))
    only fault.Check q = absurd (not_taken rows text d list is q.1.0 q.1.1)
    only fault.Sides q = absurd q
    only fault.Block q = absurd q
    only (fault.Address a) q = absurd q
    only fault.NoMemory q = inr refl

pub refuses_list : (words : List Text) (two : Bool) (paths : List Text) (n : Planned) (text : Text) (d : DisplaceFault) (a b c : Text) (more : List (Option Text)) → fault_of command_line (codes "leak_find" ∷ words) ≡ []
    → seen (path_ids two) search_ids (codes "leak_find" ∷ words) ≡ Some (name_of two, (map Some paths, (Some text ∷ more, Some a ∷ Some b ∷ Some c ∷ []))) → AreNumbers n a b c → displace_fault_of text ≡ Some d
    → AreRefused words (fault.Displace d)
refuses_list words two paths n text d a b c more taken q numbers is =
    let all : List Text = codes "leak_find" ∷ words in
    let s : IsSeen (path_ids two) search_ids all (name_of two) (map Some paths) (Some text ∷ more) (Some a ∷ Some b ∷ Some c ∷ []) = sees (path_ids two) search_ids all _ _ _ _ taken q in
    refused words (fault.Displace d) s.taken (search_list (name_in all) (rows_in all) two paths n text d s.named s.there_is (plan_seen (rows_in all) n a b c s.numbers_are numbers) (value_at 0 _ _ s.values_are) is)

-- a search that is to check another heap
search_check : (name : Text) (rows : List Row) (two : Bool) (paths : List Text) (n : Planned) → name ≡ name_of two → map (λ id. first_of id rows) (path_ids two) ≡ map Some paths
    → HasPlan rows n → list_in rows ≡ None → ChecksOtherHeap rows → IsRefusedFor name rows fault.Check
search_check name rows two paths n named there plan list checks = record {
  request = no_request;
  some = λ e. cc;
  is = inr (inr (inr (search_is_other name two named, (lacks, (None, subst (λ (o : Option Text). IsListedBy o None) (sym list) refl), checks))));
  only = λ f q. only f (search_refusal name rows two f named q);
}
  where
    lacks : Lacks name rows → ⊥
    lacks l = search_lacks name rows two paths n named there plan l

    no_request : (r : Request) → IsRequest name rows r → ⊥
    no_request (Search r) q = let x = q.check.1 checks.check in let y = q.other_heap.1 checks.other_heap in let z = q.checked x in absurd (let e : true ≡ false = sym y ∙ z in cc)
    no_request (Why r) q = not_why two (sym named ∙ q.0)
    no_request (Holders r) q = not_holders two (sym named ∙ q.0)
    no_request (Grow r) q = not_grow two (sym named ∙ q.0)
    no_request (Shown t) q = q

    only : (f : UsageFault) → IsSearchRefusal name rows f → (f ≡ fault.Check) ⊎ (f ≡ fault.NoMemory)
    only (fault.Words t) q = absurd (lacks q.1)
    only (fault.Displace e) q = absurd (subst (λ (o : Option Text). IsSomeAnd o (λ t. displace_fault_of t ≡ Some e)) list q.1)
    only fault.Check q = inl refl
    only fault.Sides q = absurd q
    only fault.Block q = absurd q
    only (fault.Address a) q = absurd q
    only fault.NoMemory q = inr refl

pub refuses_check : (words : List Text) (two : Bool) (paths : List Text) (n : Planned) (v1 v2 v3 v4 v5 v6 v8 : Option Text) (a b c : Text) → fault_of command_line (codes "leak_find" ∷ words) ≡ []
    → seen (path_ids two) search_ids (codes "leak_find" ∷ words) ≡ Some (name_of two, (map Some paths, (None ∷ v1 ∷ v2 ∷ v3 ∷ v4 ∷ v5 ∷ v6 ∷ flag_value true ∷ flag_value true ∷ v8 ∷ [], Some a ∷ Some b ∷ Some c ∷ []))) → AreNumbers n a b c
    → AreRefused words fault.Check
refuses_check words two paths n v1 v2 v3 v4 v5 v6 v8 a b c taken q numbers =
    let all : List Text = codes "leak_find" ∷ words in
    let s : IsSeen (path_ids two) search_ids all (name_of two) (map Some paths) (None ∷ v1 ∷ v2 ∷ v3 ∷ v4 ∷ v5 ∷ v6 ∷ flag_value true ∷ flag_value true ∷ v8 ∷ []) (Some a ∷ Some b ∷ Some c ∷ []) = sees (path_ids two) search_ids all _ _ _ _ taken q in
    refused words fault.Check s.taken (search_check (name_in all) (rows_in all) two paths n s.named s.there_is (plan_seen (rows_in all) n a b c s.numbers_are numbers) (value_at 0 _ _ s.values_are)
    (record { check = value_at 7 _ _ s.values_are; other_heap = value_at 8 _ _ s.values_are }))
