-- What a command line asks for, by the subcommand that clap met and the rows that it found there. Own rule.
use Rattle.std.specs.Prelude.{◌≡◌, ◌↔◌, ◌≤◌, ◌<◌, ◌^◌, ◌⊎◌, ℕ, Bool, false, List, [], ◌∷◌, ◌++◌, Option, Some, None, length, map, codes, String, string_bytes, IfSome, IsSome, IsTrue, IsSomeAnd, IsFalse, if◌then◌else◌}
use Rattle.std.specs.List.{All}
use Rattle.std.specs.Str.Parse.{IsNumeral, digits_value, without_leading_plus}
use Rattle.clap.specs.Words.{Row, Text, first_of, one_of, subcommand_of}
use Rattle.clap.specs.Faults.{fault_of}
use Rattle.clap.specs.Words.{IsAmong}
use Rattle.clap.specs.declared.error.kind.ErrorKind.{ErrorKind}
use Rattle.clap.specs.declared.error.kind.ErrorKind.TheVariants as kind
use Rattle.leak_index.specs.Readings.{distances_of, listed_by}
use Rattle.leak_pool.specs.Plan.{IsBetween, Numbers}
use Rattle.leak_request.specs.Address.{IsAddress, IsBadAddress}
use Rattle.leak_request.specs.CommandLine.{address_id, command_line, grow_ids, grow_name, holders_name, name_of, path_ids, why_name}
use Rattle.leak_request.specs.Displacements.{IsListed, displace_fault_of}
use Rattle.leak_request.specs.FoundRows.{IsGiven}
use Rattle.leak_request.specs.Questions.{IsQuestionAt, IsQuestionFault}
use Rattle.leak_request.specs.declared.fault.DisplaceFault.{DisplaceFault}
use Rattle.leak_request.specs.declared.fault.AddressArgument.TheVariants.{Operand}
use Rattle.leak_request.specs.declared.fault.UsageFault.{UsageFault}
use Rattle.leak_request.specs.declared.fault.UsageFault.TheVariants as fault
use Rattle.leak_request.specs.declared.options.GrowRequest.{GrowRequest}
use Rattle.leak_request.specs.declared.options.HoldersRequest.{HoldersRequest}
use Rattle.leak_request.specs.declared.options.Request.{Request}
use Rattle.leak_request.specs.declared.options.Request.TheVariants.{Search, Why, Holders, Grow, Text as Shown}
use Rattle.leak_request.specs.declared.options.SearchRequest.{SearchRequest}
use Rattle.leak_request.specs.declared.options.WhyRequest.{WhyRequest}

-- the text is the number in decimal, as std reads it
abbrev pub Writes : ℕ → Text → Type 0
Writes n text = IsNumeral 10 (without_leading_plus text) × (n ≡ digits_value 10 (without_leading_plus text))

-- the value of the option is the number
abbrev pub IsNumberAt : List Row → Text → ℕ → Type 0
IsNumberAt rows id n = IsSomeAnd (one_of id rows) (Writes n)

-- the value of the option is no number
abbrev pub LacksNumberAt : List Row → Text → Type 0
LacksNumberAt rows id = (n : ℕ) → n < 2 ^ 32 → IsNumberAt rows id n → ⊥

-- the numbers of a plan
pub record AreNumbersAt (rows : List Row) (n m k : ℕ) : Type 0 where
  pub workers : IsNumberAt rows (codes "workers") n
  pub piece : IsNumberAt rows (codes "piece") m
  pub stack : IsNumberAt rows (codes "stack") k

-- the list of displacements
abbrev pub list_in : List Row → Option Text
list_in rows = first_of (codes "displace") rows

-- the text lists the displacements, and without a text all distances count
abbrev pub IsListedBy : Option Text → Option (List ℕ) → Type 0
IsListedBy None listed = listed ≡ None
IsListedBy (Some text) listed = IsListed text listed

-- how many files a search reads
abbrev pub file_count : Bool → ℕ
file_count two = if two then 4 else 2

-- the texts are the values of the ids, in order
abbrev pub AreAt : {A : Type 0} → List Row → List Text → List (String A) → Type 0
AreAt rows ids texts = map (λ text. Some (string_bytes text)) texts ≡ map (λ id. first_of id rows) ids

-- the request of the subcommand of a search, with the values that clap found for it
pub record IsSearchRequest (name : Text) (rows : List Row) (r : SearchRequest) : Type 0 where
  pub two : name ≡ name_of r.options.two
  pub paths : AreAt rows (path_ids r.options.two) r.paths.items
  pub numbers : AreNumbersAt rows r.options.plan.workers r.options.plan.piece r.options.plan.stack
  pub reading : IsListedBy (list_in rows) (listed_by r.options.reading)
  pub ends : IsTrue (distances_of r.options.reading).skips_ends ↔ IsGiven rows (codes "skip-ends")
  pub freed : IsTrue r.options.skip.freed ↔ IsGiven rows (codes "skip-freed")
  pub links : IsTrue r.options.skip.links ↔ IsGiven rows (codes "skip-links")
  pub slack : IsTrue r.options.skip.slack ↔ IsGiven rows (codes "skip-slack")
  pub dead : IsTrue r.options.skip.dead ↔ IsGiven rows (codes "skip-dead-stack")
  pub unwritable : IsFalse r.options.skip.unwritable ↔ IsGiven rows (codes "all-memory")
  pub check : IsTrue r.options.check ↔ IsGiven rows (codes "check")
  pub checked : IsTrue r.options.check → IsFalse r.options.other_heap
  pub other_heap : IsTrue r.options.other_heap ↔ IsGiven rows (codes "other-heap")
  pub strict : IsTrue r.options.strict ↔ IsGiven rows (codes "strict")
  pub core_limit : r.options.core_limit ≡ 68719476736
  pub log_limit : r.options.log_limit ≡ 4294967296

-- the request for what holds a block: one core, on one thread, and no misfits are listed
pub record IsWhyRequest (rows : List Row) (r : WhyRequest) : Type 0 where
  pub two : r.options.two ≡ false
  pub paths : AreAt rows (path_ids false) r.paths.items
  pub address : IsSomeAnd (first_of address_id rows) (λ text. IsAddress text r.address)
  pub reading : IsListedBy (list_in rows) (listed_by r.options.reading)
  pub ends : IsTrue (distances_of r.options.reading).skips_ends ↔ IsGiven rows (codes "skip-ends")
  pub freed : IsTrue r.options.skip.freed ↔ IsGiven rows (codes "skip-freed")
  pub links : IsTrue r.options.skip.links ↔ IsGiven rows (codes "skip-links")
  pub slack : IsTrue r.options.skip.slack ↔ IsGiven rows (codes "skip-slack")
  pub dead : IsTrue r.options.skip.dead ↔ IsGiven rows (codes "skip-dead-stack")
  pub unwritable : IsFalse r.options.skip.unwritable ↔ IsGiven rows (codes "all-memory")
  pub check : r.options.check ≡ false
  pub other_heap : IsTrue r.options.other_heap ↔ IsGiven rows (codes "other-heap")
  pub strict : IsTrue r.options.strict ↔ IsGiven rows (codes "strict")
  pub core_limit : r.options.core_limit ≡ 68719476736
  pub log_limit : r.options.log_limit ≡ 4294967296

-- the ids of the paths of a question who holds the memory: that of an earlier log is the last, if there is one
abbrev pub earlier_ids : Option Text → List Text
earlier_ids None = []
earlier_ids (Some path) = codes "since" ∷ []

abbrev pub holders_path_ids : List Row → List Text
holders_path_ids rows = path_ids false ++ earlier_ids (first_of (codes "since") rows)

-- the request for who holds the memory: a search of one core that lists no misfits, and maybe a question about some blocks
pub record IsHoldersRequest (rows : List Row) (r : HoldersRequest) : Type 0 where
  pub two : r.options.two ≡ false
  pub paths : AreAt rows (holders_path_ids rows) r.paths.items
  pub question : IsQuestionAt rows r.question
  pub numbers : AreNumbersAt rows r.options.plan.workers r.options.plan.piece r.options.plan.stack
  pub reading : IsListedBy (list_in rows) (listed_by r.options.reading)
  pub ends : IsTrue (distances_of r.options.reading).skips_ends ↔ IsGiven rows (codes "skip-ends")
  pub freed : IsTrue r.options.skip.freed ↔ IsGiven rows (codes "skip-freed")
  pub links : IsTrue r.options.skip.links ↔ IsGiven rows (codes "skip-links")
  pub slack : IsTrue r.options.skip.slack ↔ IsGiven rows (codes "skip-slack")
  pub dead : IsTrue r.options.skip.dead ↔ IsGiven rows (codes "skip-dead-stack")
  pub unwritable : IsFalse r.options.skip.unwritable ↔ IsGiven rows (codes "all-memory")
  pub check : r.options.check ≡ false
  pub other_heap : IsTrue r.options.other_heap ↔ IsGiven rows (codes "other-heap")
  pub strict : IsTrue r.options.strict ↔ IsGiven rows (codes "strict")
  pub core_limit : r.options.core_limit ≡ 68719476736
  pub log_limit : r.options.log_limit ≡ 4294967296

-- the request for what grew
pub record IsGrowRequest (rows : List Row) (r : GrowRequest) : Type 0 where
  pub paths : AreAt rows grow_ids r.paths.items
  pub strict : IsTrue r.options.strict ↔ IsGiven rows (codes "strict")
  pub log_limit : r.options.log_limit ≡ 4294967296

-- the request of the subcommand, with the values that clap found for it
abbrev pub IsRequest : Text → List Row → Request → Type 0
IsRequest name rows (Search r) = IsSearchRequest name rows r
IsRequest name rows (Why r) = (name ≡ why_name) × IsWhyRequest rows r
IsRequest name rows (Holders r) = (name ≡ holders_name) × IsHoldersRequest rows r
IsRequest name rows (Grow r) = (name ≡ grow_name) × IsGrowRequest rows r
IsRequest name rows (Shown text) = ⊥

-- one core is searched or asked unless two are, and each request has a path for each of its files; an earlier log may be one
abbrev pub HasFiles : Request → Type 0
HasFiles (Search r) = length r.paths.items ≡ file_count r.options.two
HasFiles (Why r) = (r.options.two ≡ false) × (length r.paths.items ≡ 2)
HasFiles (Holders r) = (r.options.two ≡ false) × ((length r.paths.items ≡ 2) ⊎ (length r.paths.items ≡ 3))
HasFiles (Grow r) = length r.paths.items ≡ 2
HasFiles (Shown text) = Unit {0}

-- one of the ids has no value
abbrev pub LacksOneOf : List Row → List Text → Type 0
LacksOneOf rows ids = All (λ id. IsSome (first_of id rows)) ids → ⊥

-- a path that a request of one or two cores takes isn't there
abbrev pub LacksPath : List Row → Bool → Type 0
LacksPath rows two = LacksOneOf rows (path_ids two)

-- no numbers within the bounds of a plan are there
abbrev pub LacksNumber : List Row → Type 0
LacksNumber rows = (n : Numbers) → IsBetween 1 64 n.workers → IsBetween 1 65536 n.piece → n.stack ≤ 65536
    → AreNumbersAt rows n.workers n.piece n.stack → ⊥

-- the subcommand is neither search, or a path or a number that it takes isn't there
abbrev pub Lacks : Text → List Row → Type 0
Lacks name rows =
    ((two : Bool) → name ≡ name_of two → ⊥) ⊎ (((two : Bool) × (name ≡ name_of two) × LacksPath rows two) ⊎ LacksNumber rows)

-- the refusal says that arguments are bad, for this reason, or that memory was refused
abbrev pub IsBadBy : Type 0 → UsageFault → Type 0
IsBadBy reason (fault.Words text) = (string_bytes text ≡ codes "bad arguments") × reason
IsBadBy reason (fault.Displace f) = ⊥
IsBadBy reason fault.Check = ⊥
IsBadBy reason fault.Sides = ⊥
IsBadBy reason fault.Block = ⊥
IsBadBy reason (fault.Address a) = ⊥
IsBadBy reason fault.NoMemory = Unit {0}

-- the list of displacements is refused for this
abbrev pub IsListFaultAt : List Row → DisplaceFault → Type 0
IsListFaultAt rows f = IsSomeAnd (list_in rows) (λ text. displace_fault_of text ≡ Some f)

-- the list of displacements, if there is one, is not refused
abbrev pub IsListTaken : List Row → Type 0
IsListTaken rows = (listed : Option (List ℕ)) × IsListedBy (list_in rows) listed

-- blocks are to be compared with a heap that isn't glibc's
pub record ChecksOtherHeap (rows : List Row) : Type 0 where
  pub check : IsGiven rows (codes "check")
  pub other_heap : IsGiven rows (codes "other-heap")

-- Why what clap found is no search: something isn't there, which is answered first; or all else is there and the
-- list is refused; or the list is taken too, and another heap is to be checked.
abbrev pub IsSearchRefusal : Text → List Row → UsageFault → Type 0
IsSearchRefusal name rows (fault.Displace f) = (Lacks name rows → ⊥) × IsListFaultAt rows f
IsSearchRefusal name rows fault.Check = (Lacks name rows → ⊥) × IsListTaken rows × ChecksOtherHeap rows
IsSearchRefusal name rows (fault.Address a) = ⊥
IsSearchRefusal name rows f = IsBadBy (Lacks name rows) f

-- a path or the address isn't there
abbrev pub WhyLacks : List Row → Type 0
WhyLacks rows = LacksPath rows false ⊎ (first_of address_id rows ≡ None)

-- Why what clap found asks for no block: something isn't there, which is answered first; or all is there and the list is
-- refused; or the list is taken too, and the address isn't one.
abbrev pub IsWhyRefusal : List Row → UsageFault → Type 0
IsWhyRefusal rows (fault.Displace f) = (WhyLacks rows → ⊥) × IsListFaultAt rows f
IsWhyRefusal rows fault.Check = ⊥
IsWhyRefusal rows (fault.Address a) =
    (a ≡ Operand) × (WhyLacks rows → ⊥) × IsListTaken rows × IsSomeAnd (first_of address_id rows) IsBadAddress
IsWhyRefusal rows f = IsBadBy (WhyLacks rows) f

-- a path or a number that the question who holds the memory takes isn't there
abbrev pub HoldersLacks : List Row → Type 0
HoldersLacks rows = LacksPath rows false ⊎ LacksNumber rows

-- all that the question who holds the memory takes is there, its list of displacements is taken, and it is refused for what it asks
abbrev pub IsRefusedForQuestion : List Row → UsageFault → Type 0
IsRefusedForQuestion rows f = (HoldersLacks rows → ⊥) × IsListTaken rows × IsQuestionFault rows f

-- Why what clap found doesn't ask who holds the memory: something isn't there, which is answered first; or all is there and the
-- list is refused; or the list is taken too, and what is asked about some blocks isn't.
abbrev pub IsHoldersRefusal : List Row → UsageFault → Type 0
IsHoldersRefusal rows (fault.Words text) = IsBadBy (HoldersLacks rows) (fault.Words text)
IsHoldersRefusal rows (fault.Displace f) = (HoldersLacks rows → ⊥) × IsListFaultAt rows f
IsHoldersRefusal rows fault.NoMemory = Unit {0}
IsHoldersRefusal rows f = IsRefusedForQuestion rows f

-- why what clap found doesn't ask what grew: a path isn't there
abbrev pub IsGrowRefusal : List Row → UsageFault → Type 0
IsGrowRefusal rows f = IsBadBy (LacksOneOf rows grow_ids) f

-- the subcommand is a search, or none that is known
pub record IsOther (name : Text) : Type 0 where
  pub why : name ≡ why_name → ⊥
  pub holders : name ≡ holders_name → ⊥
  pub grow : name ≡ grow_name → ⊥

-- why what clap found for the subcommand is no request
abbrev pub IsRefusedAt : Text → List Row → UsageFault → Type 0
IsRefusedAt name rows f =
    ((name ≡ why_name) × IsWhyRefusal rows f)
    ⊎ (((name ≡ holders_name) × IsHoldersRefusal rows f)
    ⊎ (((name ≡ grow_name) × IsGrowRefusal rows f) ⊎ (IsOther name × IsSearchRefusal name rows f)))

-- clap takes the words, and the request is that of the subcommand that they name
pub record IsTakenAs (words : List Text) (r : Request) : Type 0 where
  pub taken : fault_of command_line words ≡ []
  pub request : IsSomeAnd (subcommand_of command_line words) (λ met. IsRequest met.0 met.1 r)

-- the kind of what clap answers in place of matches: a text that was asked for
abbrev pub IsText : ErrorKind → Type 0
IsText k = (k ≡ kind.DisplayHelp) ⊎ (k ≡ kind.DisplayVersion)

-- clap answers the words with a text that they ask for
abbrev pub AskForText : List Text → Type 0
AskForText words = (k : ErrorKind) × IsAmong k (fault_of command_line words) × IsText k

-- what the words ask for
abbrev pub IsRequestOf : List Text → Request → Type 0
IsRequestOf words (Search r) = IsTakenAs words (Search r)
IsRequestOf words (Why r) = IsTakenAs words (Why r)
IsRequestOf words (Holders r) = IsTakenAs words (Holders r)
IsRequestOf words (Grow r) = IsTakenAs words (Grow r)
IsRequestOf words (Shown text) = AskForText words

-- clap has another answer to the words than a text that they ask for
abbrev pub AskForMore : List Text → Type 0
AskForMore words = (k : ErrorKind) → IsText k → fault_of command_line words ≡ k ∷ [] → ⊥

-- clap refuses the words, and the text is its own, or takes them, and what it found is refused
abbrev pub IsUsageFaultOf : List Text → UsageFault → Type 0
IsUsageFaultOf words (fault.Words text) = AskForMore words × (fault_of command_line words ≡ []
    → IfSome (subcommand_of command_line words) (λ met. IsRefusedAt met.0 met.1 (fault.Words text)))
IsUsageFaultOf words (fault.Displace f) = (fault_of command_line words ≡ [])
    × IsSomeAnd (subcommand_of command_line words) (λ met. IsRefusedAt met.0 met.1 (fault.Displace f))
IsUsageFaultOf words fault.Check = (fault_of command_line words ≡ [])
    × IsSomeAnd (subcommand_of command_line words) (λ met. IsRefusedAt met.0 met.1 fault.Check)
IsUsageFaultOf words fault.Sides = (fault_of command_line words ≡ [])
    × IsSomeAnd (subcommand_of command_line words) (λ met. IsRefusedAt met.0 met.1 fault.Sides)
IsUsageFaultOf words fault.Block = (fault_of command_line words ≡ [])
    × IsSomeAnd (subcommand_of command_line words) (λ met. IsRefusedAt met.0 met.1 fault.Block)
IsUsageFaultOf words (fault.Address a) = (fault_of command_line words ≡ [])
    × IsSomeAnd (subcommand_of command_line words) (λ met. IsRefusedAt met.0 met.1 (fault.Address a))
IsUsageFaultOf words fault.NoMemory = Unit {0}
