-- What command lines ask of a block, by the values that clap found.
use Rattle.std.proofs.Common.{◌≡◌, ◌↔◌, ◌⊎◌, ℕ, inl, inr, ⊎_elim, Bool, true, false, ◌&&◌, List, [], ◌∷◌, ◌++◌, codes, map, length, take, drop, Option, Some, None, refl, sym, ap, subst, ◌∙◌, arith}
use Rattle.std.specs.Prelude.{nat_le, bytes_eq, IsSomeAnd}
use Rattle.std.specs.List.{list_all}
use Rattle.std.proofs.lemmas.Bool.{le-leb, leb-true}
use Rattle.leak_lemmas.proofs.Bools.{and_left, and_right}
use Rattle.clap.specs.Words.{Row, Text, first_of}
use Rattle.clap.specs.Faults.{fault_of}
use Rattle.leak_index.specs.Readings.{distances_of, listed_by}
use Rattle.leak_request.specs.Address.{IsAddress, IsBadAddress, is_digit, value_of}
use Rattle.leak_request.specs.CommandLine.{address_id, command_line, grow_name, holders_name, path_ids, why_name}
use Rattle.leak_request.specs.Displacements.{displace_fault_of}
use Rattle.leak_request.specs.FoundRows.{IsGiven}
use Rattle.leak_request.specs.Requests.{IsListedBy, IsRefusedAt, IsRequest, IsWhyRefusal, WhyLacks, list_in}
use Rattle.leak_request.specs.declared.fault.DisplaceFault.{DisplaceFault}
use Rattle.leak_request.specs.declared.fault.AddressArgument.TheVariants as argument
use Rattle.leak_request.specs.declared.fault.UsageFault.{UsageFault}
use Rattle.leak_request.specs.declared.fault.UsageFault.TheVariants as fault
use Rattle.leak_request.specs.declared.options.Options.{Options}
use Rattle.leak_request.specs.declared.options.Request.{Request}
use Rattle.leak_request.specs.declared.options.Request.TheVariants.{Search, Why, Holders, Grow, Text as Shown}
use Rattle.leak_request_examples.specs.Requests.{AskFor, AreReadAs, AreRefused, Reads, Signed}
use Rattle.leak_request_examples.specs.Questions.{IsWhyAsked}
use Rattle.leak_request_examples.proofs.RequestTests.{HasFlag, IsSeen, Values, flag_from, flag_to, list_is, name_in, no_list_fault, none_lacks, not_from, not_to, paths_from, paths_to, refused_at, request_at, rows_in, seen, sees, value_at}
use Rattle.leak_request_examples.proofs.SearchTests.{HasReads, IsListOf, flag_value, letters, not_why, reading_values, reads_seen}
use Rattle.leak_request_examples.proofs.RefusalTests.{IsRefusedFor, fault_at, no_displace, not_taken, refused, same_displace}

-- ---- addresses

-- 0x and 1 to 16 digits, as a test
abbrev pub is_address : Text → Bool
is_address text =
    bytes_eq (take 2 text) (codes "0x") && (nat_le 1 (length (drop 2 text)) && (nat_le (length (drop 2 text)) 16 && list_all is_digit (drop 2 text)))

passes : (text : Text) (n : ℕ) → IsAddress text n → is_address text ≡ true
passes text n q = subst (λ (t : Text). is_address t ≡ true) (sym q.1) (rw (le-leb 1 (length q.0) q.2, le-leb (length q.0) 16 q.3, q.4) refl)

pub bad_address : (text : Text) → is_address text ≡ false → IsBadAddress text
bad_address text t = λ a q. absurd (let e : true ≡ false = sym (passes text a q) ∙ t in cc)

-- what the text writes
pub address_is : (digits : List ℕ) (n m : ℕ) → is_address (codes "0x" ++ digits) ≡ true → n ≡ value_of digits → IsAddress (codes "0x" ++ digits) m ↔ (m ≡ n)
address_is digits n m t e = (
  (λ q. q.5 ∙ ap value_of (sym (ap (drop {A = ℕ} 2) q.1)) ∙ sym e),
  (λ s. (
    digits,
    refl,
    leb-true 1 (length digits) (and_left (nat_le 1 (length digits)) _ rest),
    leb-true (length digits) 16 (and_left (nat_le (length digits) 16) _ (and_right (nat_le 1 (length digits)) _ rest)),
    and_right (nat_le (length digits) 16) _ (and_right (nat_le 1 (length digits)) _ rest),
    s ∙ e,
  )),
)
  where
    rest : (nat_le 1 (length digits) && (nat_le (length digits) 16 && list_all is_digit digits)) ≡ true
    rest = t

pub address_at : (o : Option Text) (digits : List ℕ) (n m : ℕ) → o ≡ Some (codes "0x" ++ digits) → is_address (codes "0x" ++ digits) ≡ true → n ≡ value_of digits → IsSomeAnd o (λ text. IsAddress text m) ↔ (m ≡ n)
address_at o digits n m e t v = (
  (λ q. (address_is digits n m t v).0 (subst (λ (x : Option Text). IsSomeAnd x (λ text. IsAddress text m)) e q)),
  (λ s. subst (λ (x : Option Text). IsSomeAnd x (λ text. IsAddress text m)) (sym e) ((address_is digits n m t v).1 s)),
)

pub good_address : (o : Option Text) (digits : List ℕ) (n : ℕ) → o ≡ Some (codes "0x" ++ digits) → is_address (codes "0x" ++ digits) ≡ true → n ≡ value_of digits → IsSomeAnd o IsBadAddress → ⊥
good_address o digits n e t v q = subst (λ (x : Option Text). IsSomeAnd x IsBadAddress) e q n ((address_is digits n n t v).1 refl)

-- ---- names of subcommands

pub why_holders : why_name ≡ holders_name → ⊥
why_holders e = letters why_name holders_name 119 104 e refl refl (λ x. omega arith)

pub why_grow : why_name ≡ grow_name → ⊥
why_grow e = letters why_name grow_name 119 103 e refl refl (λ x. omega arith)

pub holders_grow : holders_name ≡ grow_name → ⊥
holders_grow e = letters holders_name grow_name 104 103 e refl refl (λ x. omega arith)

-- ---- options

pub reads_from : (rows : List Row) (w : Reads) (o : Options) → HasReads rows w → IsListedBy (list_in rows) (listed_by o.reading) → ((distances_of o.reading).skips_ends ≡ true) ↔ IsGiven rows (codes "skip-ends")
    → (o.skip.freed ≡ true) ↔ IsGiven rows (codes "skip-freed") → (o.skip.links ≡ true) ↔ IsGiven rows (codes "skip-links") → (o.skip.slack ≡ true) ↔ IsGiven rows (codes "skip-slack")
    → (o.skip.dead ≡ true) ↔ IsGiven rows (codes "skip-dead-stack")
    → (o.skip.unwritable ≡ false) ↔ IsGiven rows (codes "all-memory") → o.core_limit ≡ 68719476736 → o.log_limit ≡ 4294967296 → AreReadAs w o
reads_from rows w o h listed ends freed links slack dead memory core log = record {
  listed = (list_is rows w.listed (listed_by o.reading) h.list).0 listed;
  ends = flag_from rows (codes "skip-ends") (distances_of o.reading).skips_ends w.ends h.ends ends;
  freed = flag_from rows (codes "skip-freed") o.skip.freed w.freed h.freed freed;
  links = flag_from rows (codes "skip-links") o.skip.links w.links h.links links;
  slack = flag_from rows (codes "skip-slack") o.skip.slack w.slack h.slack slack;
  dead = flag_from rows (codes "skip-dead-stack") o.skip.dead w.dead h.dead dead;
  unwritable = not_from rows (codes "all-memory") o.skip.unwritable w.all_memory h.all_memory memory;
  core_limit = core;
  log_limit = log;
}

-- ---- what holds a block

pub record HasWhy (name : Text) (rows : List Row) (paths : List Text) (address : ℕ) (w : Reads) (s : Signed) : Type 0 where
  pub named : name ≡ why_name
  pub there : map (λ id. first_of id rows) (path_ids false) ≡ map Some paths
  pub digits : List ℕ
  pub text : first_of address_id rows ≡ Some (codes "0x" ++ digits)
  pub good : is_address (codes "0x" ++ digits) ≡ true
  pub value : address ≡ value_of digits
  pub reads : HasReads rows w
  pub check : s.check ≡ false
  pub other_heap : HasFlag rows (codes "other-heap") s.other_heap
  pub strict : HasFlag rows (codes "strict") s.strict

why_is : (name : Text) (rows : List Row) (paths : List Text) (address : ℕ) (w : Reads) (s : Signed) (r : Request) → HasWhy name rows paths address w s → IsRequest name rows r ↔ IsWhyAsked paths address w s r
why_is name rows paths address w s (Search r) h = ((λ q. not_why r.options.two (sym q.two ∙ h.named)), (λ q. absurd q))
why_is name rows paths address w s (Why r) h = (
  (λ q. record {
    two_is = q.1.two;
    paths_are = paths_from rows (path_ids false) paths r.paths.items h.there q.1.paths;
    address_is = (address_at (first_of address_id rows) h.digits address r.address h.text h.good h.value).0 q.1.address;
    reading = reads_from rows w r.options h.reads q.1.reading q.1.ends q.1.freed q.1.links q.1.slack q.1.dead q.1.unwritable q.1.core_limit q.1.log_limit;
    signs = record {
      check = q.1.check ∙ sym h.check;
      other_heap = flag_from rows (codes "other-heap") r.options.other_heap s.other_heap h.other_heap q.1.other_heap;
      strict = flag_from rows (codes "strict") r.options.strict s.strict h.strict q.1.strict;
    };
  }),
  (λ q. (
    h.named,
    record {
      two = q.two_is;
      paths = paths_to rows (path_ids false) paths r.paths.items h.there q.paths_are;
      address = (address_at (first_of address_id rows) h.digits address r.address h.text h.good h.value).1 q.address_is;
      reading = (list_is rows w.listed (listed_by r.options.reading) h.reads.list).1 q.reading.listed;
      ends = flag_to rows (codes "skip-ends") (distances_of r.options.reading).skips_ends w.ends h.reads.ends q.reading.ends;
      freed = flag_to rows (codes "skip-freed") r.options.skip.freed w.freed h.reads.freed q.reading.freed;
      links = flag_to rows (codes "skip-links") r.options.skip.links w.links h.reads.links q.reading.links;
      slack = flag_to rows (codes "skip-slack") r.options.skip.slack w.slack h.reads.slack q.reading.slack;
      dead = flag_to rows (codes "skip-dead-stack") r.options.skip.dead w.dead h.reads.dead q.reading.dead;
      unwritable = not_to rows (codes "all-memory") r.options.skip.unwritable w.all_memory h.reads.all_memory q.reading.unwritable;
      check = q.signs.check ∙ h.check;
      other_heap = flag_to rows (codes "other-heap") r.options.other_heap s.other_heap h.other_heap q.signs.other_heap;
      strict = flag_to rows (codes "strict") r.options.strict s.strict h.strict q.signs.strict;
      core_limit = q.reading.core_limit;
      log_limit = q.reading.log_limit;
    },
  )),
)
why_is name rows paths address w s (Holders r) h = ((λ q. why_holders (sym h.named ∙ q.0)), (λ q. absurd q))
why_is name rows paths address w s (Grow r) h = ((λ q. why_grow (sym h.named ∙ q.0)), (λ q. absurd q))
why_is name rows paths address w s (Shown text) h = ((λ q. absurd q), (λ q. absurd q))

why_refusal : (name : Text) (rows : List Row) (f : UsageFault) → name ≡ why_name → IsRefusedAt name rows f → IsWhyRefusal rows f
why_refusal name rows f named (inl q) = q.1
why_refusal name rows f named (inr (inl q)) = absurd (why_holders (sym named ∙ q.0))
why_refusal name rows f named (inr (inr (inl q))) = absurd (why_grow (sym named ∙ q.0))
why_refusal name rows f named (inr (inr (inr q))) = absurd (q.0.why named)

why_lacks : (rows : List Row) (paths : List Text) (text : Text) → map (λ id. first_of id rows) (path_ids false) ≡ map Some paths → first_of address_id rows ≡ Some text → WhyLacks rows → ⊥
why_lacks rows paths text there is (inl q) = none_lacks rows (path_ids false) paths there q
why_lacks rows paths text there is (inr q) = let e : Some text ≡ None = sym is ∙ q in cc

why_taken : (name : Text) (rows : List Row) (paths : List Text) (address : ℕ) (w : Reads) (s : Signed) (f : UsageFault) → HasWhy name rows paths address w s → IsWhyRefusal rows f → f ≡ fault.NoMemory
why_taken name rows paths address w s (fault.Words t) h q = absurd (why_lacks rows paths (codes "0x" ++ h.digits) h.there h.text q.1)
why_taken name rows paths address w s (fault.Displace f) h q = absurd (no_list_fault rows w.listed h.reads.list f q.1)
why_taken name rows paths address w s fault.Check h q = absurd q
why_taken name rows paths address w s fault.Sides h q = absurd q
why_taken name rows paths address w s fault.Block h q = absurd q
why_taken name rows paths address w s (fault.Address a) h q = absurd (good_address (first_of address_id rows) h.digits address h.text h.good h.value q.3)
why_taken name rows paths address w s fault.NoMemory h q = refl

abbrev pub address_ids : List Text
address_ids = codes "displace" ∷ codes "skip-ends" ∷ codes "skip-freed" ∷ codes "skip-links" ∷ codes "skip-slack" ∷ codes "skip-dead-stack" ∷ codes "all-memory" ∷ codes "address" ∷ []

abbrev pub why_ids : List Text
why_ids = codes "displace" ∷ codes "skip-ends" ∷ codes "skip-freed" ∷ codes "skip-links" ∷ codes "skip-slack" ∷ codes "skip-dead-stack" ∷ codes "all-memory" ∷ codes "address"
    ∷ codes "other-heap" ∷ codes "strict" ∷ []

abbrev pub why_values : Option Text → Reads → List ℕ → Signed → Values
why_values list w digits s = reading_values list w (Some (codes "0x" ++ digits) ∷ flag_value s.other_heap ∷ flag_value s.strict ∷ [])

pub sees_why : (words : List Text) (paths : List Text) (address : ℕ) (w : Reads) (s : Signed) (list : Option Text) (digits : List ℕ) (numbers : Values) → fault_of command_line (codes "leak_find" ∷ words) ≡ []
    → seen (path_ids false) why_ids (codes "leak_find" ∷ words) ≡ Some (why_name, (map Some paths, (why_values list w digits s, numbers)))
    → IsListOf list w.listed → is_address (codes "0x" ++ digits) ≡ true → address ≡ value_of digits → s.check ≡ false → AskFor words (IsWhyAsked paths address w s)
sees_why words paths address w s list digits numbers taken q lists good value check =
    let all : List Text = codes "leak_find" ∷ words in
    let x : IsSeen (path_ids false) why_ids all why_name (map Some paths) (why_values list w digits s) numbers = sees (path_ids false) why_ids all _ _ _ _ taken q in
    let h : HasWhy (name_in all) (rows_in all) paths address w s = record {
      named = x.named;
      there = x.there_is;
      digits = digits;
      text = value_at 7 _ _ x.values_are;
      good = good;
      value = value;
      reads = reads_seen (rows_in all) (codes "address" ∷ codes "other-heap" ∷ codes "strict" ∷ []) list w _ x.values_are lists;
      check = check;
      other_heap = value_at 8 _ _ x.values_are;
      strict = value_at 9 _ _ x.values_are;
    } in
    record {
      request = λ r. let a = request_at all r x.taken in let b = why_is (name_in all) (rows_in all) paths address w s r h in ((λ k. b.0 (a.0 k)), (λ k. a.1 (b.1 k)));
      taken = λ f k. ⊎_elim (λ e. why_taken (name_in all) (rows_in all) paths address w s f h (why_refusal (name_in all) (rows_in all) f h.named e)) (λ e. e) (refused_at all f x.taken k);
    }

-- an address that is none
why_address : (name : Text) (rows : List Row) (paths : List Text) (text : Text) → name ≡ why_name → map (λ id. first_of id rows) (path_ids false) ≡ map Some paths → first_of address_id rows ≡ Some text
    → is_address text ≡ false → list_in rows ≡ None → IsRefusedFor name rows (fault.Address argument.Operand)
why_address name rows paths text named there is bad list = record {
  request = no_request;
  some = λ e. cc;
  is = inl (named, (refl, lacks, (None, subst (λ (o : Option Text). IsListedBy o None) (sym list) refl), subst (λ (o : Option Text). IsSomeAnd o IsBadAddress) (sym is) (bad_address text bad)));
  only = λ f q. only f (why_refusal name rows f named q);
}
  where
    lacks : WhyLacks rows → ⊥
    lacks l = why_lacks rows paths text there is l

    no_request : (r : Request) → IsRequest name rows r → ⊥
    no_request (Search r) q = not_why r.options.two (sym q.two ∙ named)
    no_request (Why r) q = bad_address text bad r.address (subst (λ (o : Option Text). IsSomeAnd o (λ t. IsAddress t r.address)) is q.1.address)
    no_request (Holders r) q = why_holders (sym named ∙ q.0)
    no_request (Grow r) q = why_grow (sym named ∙ q.0)
    no_request (Shown t) q = q

    only : (f : UsageFault) → IsWhyRefusal rows f → (f ≡ fault.Address argument.Operand) ⊎ (f ≡ fault.NoMemory)
    only (fault.Words t) q = absurd (lacks q.1)
    only (fault.Displace e) q = absurd (subst (λ (o : Option Text). IsSomeAnd o (λ t. displace_fault_of t ≡ Some e)) list q.1)
    only fault.Check q = absurd q
    only fault.Sides q = absurd q
    only fault.Block q = absurd q
    only (fault.Address a) q = inl (ap fault.Address q.0)
    only fault.NoMemory q = inr refl

pub refuses_address : (words : List Text) (paths : List Text) (text : Text) (v1 v2 v3 v4 v5 v6 : Option Text) (numbers : Values) → fault_of command_line (codes "leak_find" ∷ words) ≡ []
    → seen (path_ids false) address_ids (codes "leak_find" ∷ words) ≡ Some (why_name, (map Some paths, (None ∷ v1 ∷ v2 ∷ v3 ∷ v4 ∷ v5 ∷ v6 ∷ Some text ∷ [], numbers))) → is_address text ≡ false → AreRefused words (fault.Address argument.Operand)
refuses_address words paths text v1 v2 v3 v4 v5 v6 numbers taken q bad =
    let all : List Text = codes "leak_find" ∷ words in
    let s : IsSeen (path_ids false) address_ids all why_name (map Some paths) (None ∷ v1 ∷ v2 ∷ v3 ∷ v4 ∷ v5 ∷ v6 ∷ Some text ∷ []) numbers = sees (path_ids false) address_ids all _ _ _ _ taken q in
    refused words (fault.Address argument.Operand) s.taken (why_address (name_in all) (rows_in all) paths text s.named s.there_is (value_at 7 _ _ s.values_are) bad (value_at 0 _ _ s.values_are))

-- a list that is refused, whatever the address is
why_list : (name : Text) (rows : List Row) (paths : List Text) (text address : Text) (d : DisplaceFault) → name ≡ why_name → map (λ id. first_of id rows) (path_ids false) ≡ map Some paths → first_of address_id rows ≡ Some address
    → list_in rows ≡ Some text → displace_fault_of text ≡ Some d → IsRefusedFor name rows (fault.Displace d)
why_list name rows paths text address d named there at list is = record { request = no_request; some = no_displace d; is = inl (named, (lacks, (fault_at rows text d list).1 is)); only = λ f q. only f (why_refusal name rows f named q) }
  where
    lacks : WhyLacks rows → ⊥
    lacks l = why_lacks rows paths address there at l

    no_request : (r : Request) → IsRequest name rows r → ⊥
    no_request (Search r) q = not_why r.options.two (sym q.two ∙ named)
    no_request (Why r) q = not_taken rows text d list is _ q.1.reading
    no_request (Holders r) q = why_holders (sym named ∙ q.0)
    no_request (Grow r) q = why_grow (sym named ∙ q.0)
    no_request (Shown t) q = q

    only : (f : UsageFault) → IsWhyRefusal rows f → (f ≡ fault.Displace d) ⊎ (f ≡ fault.NoMemory)
    only (fault.Words t) q = absurd (lacks q.1)
    only (fault.Displace e) q = inl (same_displace d e (sym is ∙ (fault_at rows text e list).0 q.1))
    only fault.Check q = absurd q
    only fault.Sides q = absurd q
    only fault.Block q = absurd q
    only (fault.Address a) q = absurd (not_taken rows text d list is q.2.0 q.2.1)
    only fault.NoMemory q = inr refl

pub refuses_why_list : (words : List Text) (paths : List Text) (text address : Text) (d : DisplaceFault) (v1 v2 v3 v4 v5 v6 : Option Text) (numbers : Values) → fault_of command_line (codes "leak_find" ∷ words) ≡ []
    → seen (path_ids false) address_ids (codes "leak_find" ∷ words) ≡ Some (why_name, (map Some paths, (Some text ∷ v1 ∷ v2 ∷ v3 ∷ v4 ∷ v5 ∷ v6 ∷ Some address ∷ [], numbers))) → displace_fault_of text ≡ Some d → AreRefused words (fault.Displace d)
refuses_why_list words paths text address d v1 v2 v3 v4 v5 v6 numbers taken q is =
    let all : List Text = codes "leak_find" ∷ words in
    let s : IsSeen (path_ids false) address_ids all why_name (map Some paths) (Some text ∷ v1 ∷ v2 ∷ v3 ∷ v4 ∷ v5 ∷ v6 ∷ Some address ∷ []) numbers = sees (path_ids false) address_ids all _ _ _ _ taken q in
    refused words (fault.Displace d) s.taken (why_list (name_in all) (rows_in all) paths text address d s.named s.there_is (value_at 7 _ _ s.values_are) (value_at 0 _ _ s.values_are) is)
