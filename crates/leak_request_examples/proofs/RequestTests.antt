-- What a command line asks for, by the values that clap found.
use Rattle.std.proofs.Common.{◌≡◌, ◌↔◌, ◌⊎◌, ℕ, ◌^◌, ◌<◌, inl, inr, Bool, true, false, not, List, [], ◌∷◌, codes, map, Option, Some, None, refl, sym, ap, ap₂, subst, ◌∙◌, arith}
use Rattle.std.specs.Prelude.{decimal, option_map, String, string_bytes, slice_index_or, IfSome, IsSome, IsSomeAnd}
use Rattle.std.specs.List.{All}
use Rattle.std.specs.Option.{option_map_or}
use Rattle.std.specs.Str.Parse.{IsNumeral, digits_value, without_leading_plus}
use Rattle.std.proofs.lemmas.Fmt.{decimal_is_IsNumeral}
use Rattle.std.proofs.lemmas.List.Elements.{All-cons, All-nil}
use Rattle.clap.specs.Words.{Row, Text, first_of, one_of, subcommand_of}
use Rattle.clap.specs.Faults.{fault_of}
use Rattle.clap.specs.Words.{IsAmong}
use Rattle.leak_request.specs.CommandLine.{command_line}
use Rattle.leak_request.specs.Displacements.{displace_fault_of, displacements_of}
use Rattle.leak_request.specs.FoundRows.{IsGiven}
use Rattle.leak_request.specs.Requests.{AreAt, IsListedBy, IsListFaultAt, IsNumberAt, IsRefusedAt, IsRequest, IsRequestOf, IsTakenAs, IsUsageFaultOf, LacksOneOf, Writes, list_in}
use Rattle.leak_request.specs.declared.fault.UsageFault.{UsageFault}
use Rattle.leak_request.specs.declared.fault.UsageFault.TheVariants as fault
use Rattle.leak_request.specs.declared.options.Request.{Request}
use Rattle.leak_request.specs.declared.options.Request.TheVariants.{Search, Why, Holders, Grow, Text as Shown}

-- ---- what clap found for the words

abbrev pub name_in : List Text → Text
name_in words = option_map_or (λ met. met.0) (subcommand_of command_line words) []

abbrev pub rows_in : List Text → List Row
rows_in words = option_map_or (λ met. met.1) (subcommand_of command_line words) []

-- clap takes the words
pub record AreTaken (words : List Text) : Type 0 where
  pub taken : fault_of command_line words ≡ []
  pub met : subcommand_of command_line words ≡ Some (name_in words, rows_in words)

-- what is looked at of it: the name, the values of some paths and of some options, and the numbers of a plan
abbrev pub number_ids : List Text
number_ids = codes "workers" ∷ codes "piece" ∷ codes "stack" ∷ []

abbrev pub Values : Type 0
Values = List (Option Text)

abbrev pub Seen : Type 0
Seen = Text × (Values × (Values × Values))

abbrev pub seen_in : List Text → List Text → Text × List Row → Seen
seen_in paths ids met = (met.0, (map (λ id. first_of id met.1) paths, (map (λ id. first_of id met.1) ids, map (λ id. one_of id met.1) number_ids)))

abbrev pub seen : List Text → List Text → List Text → Option Seen
seen paths ids words = option_map (seen_in paths ids) (subcommand_of command_line words)

pub record IsSeen (paths ids words : List Text) (name : Text) (there values numbers : Values) : Type 0 where
  pub taken : AreTaken words
  pub named : name_in words ≡ name
  pub there_is : map (λ id. first_of id (rows_in words)) paths ≡ there
  pub values_are : map (λ id. first_of id (rows_in words)) ids ≡ values
  pub numbers_are : map (λ id. one_of id (rows_in words)) number_ids ≡ numbers

abbrev first : Option (Text × List Row) → Text
first o = option_map_or (λ met. met.0) o []

abbrev rows : Option (Text × List Row) → List Row
rows o = option_map_or (λ met. met.1) o []

pub sees : (paths ids words : List Text) (name : Text) (there values numbers : Values) → fault_of command_line words ≡ [] → seen paths ids words ≡ Some (name, (there, (values, numbers)))
    → IsSeen paths ids words name there values numbers
sees paths ids words name there values numbers taken q = go (subcommand_of command_line words) refl q
  where
    go : (o : Option (Text × List Row)) → subcommand_of command_line words ≡ o → option_map (seen_in paths ids) o ≡ Some (name, (there, (values, numbers))) → IsSeen paths ids words name there values numbers
    go None e h = cc
    go (Some met) e h =
        let same : seen_in paths ids met ≡ (name, (there, (values, numbers))) = ap (λ (o : Option Seen). option_map_or (λ x. x) o (seen_in paths ids met)) h in
        let row : rows_in words ≡ met.1 = ap rows e in
        record {
          taken = record { taken = taken; met = e ∙ ap Some (ap₂ (λ (a : Text) (b : List Row). (a, b)) (sym (ap first e)) (sym row)) };
          named = ap first e ∙ ap (λ (x : Seen). x.0) same;
          there_is = ap (λ (r : List Row). map (λ id. first_of id r) paths) row ∙ ap (λ (x : Seen). x.1.0) same;
          values_are = ap (λ (r : List Row). map (λ id. first_of id r) ids) row ∙ ap (λ (x : Seen). x.1.1.0) same;
          numbers_are = ap (λ (r : List Row). map (λ id. one_of id r) number_ids) row ∙ ap (λ (x : Seen). x.1.1.1) same;
        }

-- the value at a place
pub value_at : (k : ℕ) (xs ys : Values) → xs ≡ ys → slice_index_or xs k None ≡ slice_index_or ys k None
value_at k xs ys e = ap (λ (l : Values). slice_index_or l k None) e

taken_at : (words : List Text) (r : Request) → AreTaken words → IsTakenAs words r ↔ IsRequest (name_in words) (rows_in words) r
taken_at words r t = (
  (λ q. subst (λ (o : Option (Text × List Row)). IsSomeAnd o (λ met. IsRequest met.0 met.1 r)) t.met q.request),
  (λ q. record { taken = t.taken; request = subst (λ (o : Option (Text × List Row)). IsSomeAnd o (λ met. IsRequest met.0 met.1 r)) (sym t.met) q }),
)

pub request_at : (words : List Text) (r : Request) → AreTaken words → IsRequestOf words r ↔ IsRequest (name_in words) (rows_in words) r
request_at words (Search r) t = taken_at words (Search r) t
request_at words (Why r) t = taken_at words (Why r) t
request_at words (Holders r) t = taken_at words (Holders r) t
request_at words (Grow r) t = taken_at words (Grow r) t
request_at words (Shown text) t = ((λ q. subst (IsAmong q.0) t.taken q.1), (λ q. absurd q))

pub refused_at : (words : List Text) (f : UsageFault) → AreTaken words → IsUsageFaultOf words f → IsRefusedAt (name_in words) (rows_in words) f ⊎ (f ≡ fault.NoMemory)
refused_at words (fault.Words text) t q = inl (subst (λ (o : Option (Text × List Row)). IfSome o (λ met. IsRefusedAt met.0 met.1 (fault.Words text))) t.met (q.1 t.taken))
refused_at words (fault.Displace f) t q = inl (subst (λ (o : Option (Text × List Row)). IsSomeAnd o (λ met. IsRefusedAt met.0 met.1 (fault.Displace f))) t.met q.1)
refused_at words fault.Check t q = inl (subst (λ (o : Option (Text × List Row)). IsSomeAnd o (λ met. IsRefusedAt met.0 met.1 fault.Check)) t.met q.1)
refused_at words fault.Sides t q = inl (subst (λ (o : Option (Text × List Row)). IsSomeAnd o (λ met. IsRefusedAt met.0 met.1 fault.Sides)) t.met q.1)
refused_at words fault.Block t q = inl (subst (λ (o : Option (Text × List Row)). IsSomeAnd o (λ met. IsRefusedAt met.0 met.1 fault.Block)) t.met q.1)
refused_at words (fault.Address a) t q = inl (subst (λ (o : Option (Text × List Row)). IsSomeAnd o (λ met. IsRefusedAt met.0 met.1 (fault.Address a))) t.met q.1)
refused_at words fault.NoMemory t q = inr refl

-- ---- numbers, lists and flags

-- the value of the option is the number in decimal
pub record HasNumber (rows : List Row) (id : Text) (n : ℕ) : Type 0 where
  pub text : Text
  pub is : one_of id rows ≡ Some text
  pub writes : without_leading_plus text ≡ decimal n
  pub small : n < 2 ^ 64

pub number_is : (rows : List Row) (id : Text) (n m : ℕ) → HasNumber rows id n → IsNumberAt rows id m ↔ (m ≡ n)
number_is rows id n m h = (
  (λ q. (subst (λ (o : Option Text). IsSomeAnd o (Writes m)) h.is q).1 ∙ ap (digits_value 10) h.writes ∙ (decimal_is_IsNumeral n h.small).1),
  (λ e. subst (λ (o : Option Text). IsSomeAnd o (Writes m)) (sym h.is)
      (subst (IsNumeral 10) (sym h.writes) (decimal_is_IsNumeral n h.small).0, e ∙ sym (ap (digits_value 10) h.writes ∙ (decimal_is_IsNumeral n h.small).1))),
)

-- there is no list of displacements, or one that lists these
abbrev pub HasList : List Row → Option (List ℕ) → Type 0
HasList rows listed = ((list_in rows ≡ None) × (listed ≡ None))
    ⊎ ((text : Text) × (list_in rows ≡ Some text) × (displace_fault_of text ≡ None) × (listed ≡ Some (displacements_of text)))

pub list_is : (rows : List Row) (listed l : Option (List ℕ)) → HasList rows listed → IsListedBy (list_in rows) l ↔ (l ≡ listed)
list_is rows listed l (inl none) =
    ((λ q. subst (λ (o : Option Text). IsListedBy o l) none.0 q ∙ sym none.1), (λ e. subst (λ (o : Option Text). IsListedBy o l) (sym none.0) (e ∙ none.1)))
list_is rows listed l (inr some) =
    ((λ q. (subst (λ (o : Option Text). IsListedBy o l) some.1 q).1 ∙ sym some.3), (λ e. subst (λ (o : Option Text). IsListedBy o l) (sym some.1) (some.2, e ∙ some.3)))

pub no_list_fault : (rows : List Row) (listed : Option (List ℕ)) → HasList rows listed → (f : _) → IsListFaultAt rows f → ⊥
no_list_fault rows listed (inl none) f q = subst (λ (o : Option Text). IsSomeAnd o (λ text. displace_fault_of text ≡ Some f)) none.0 q
no_list_fault rows listed (inr some) f q = let e : None ≡ Some f = sym some.2 ∙ subst (λ (o : Option Text). IsSomeAnd o (λ text. displace_fault_of text ≡ Some f)) some.1 q in cc

-- the text of a flag
abbrev pub flag_text : Bool → Text
flag_text true = codes "true"
flag_text false = codes "false"

abbrev pub HasFlag : List Row → Text → Bool → Type 0
HasFlag rows id b = first_of id rows ≡ Some (flag_text b)

pub first_letter : (a b : Text) → Some a ≡ Some b → slice_index_or a 0 0 ≡ slice_index_or b 0 0
first_letter a b e = ap (λ (o : Option Text). slice_index_or (option_map_or (λ t. t) o []) 0 0) e

pub given_is : (rows : List Row) (id : Text) (f : Bool) → HasFlag rows id f → IsGiven rows id ↔ (f ≡ true)
given_is rows id true h = ((λ q. refl), (λ e. h))
given_is rows id false h = ((λ q. absurd (let e : 102 ≡ 116 = first_letter (codes "false") (codes "true") (sym h ∙ q) in omega arith)), (λ e. absurd (let x : false ≡ true = e in cc)))

flag_is : (b f : Bool) → ((b ≡ true) ↔ (f ≡ true)) → b ≡ f
flag_is true f q = sym (q.0 refl)
flag_is false true q = q.1 refl
flag_is false false q = refl

pub flag_from : (rows : List Row) (id : Text) (b f : Bool) → HasFlag rows id f → (b ≡ true) ↔ IsGiven rows id → b ≡ f
flag_from rows id b f h q = let g = given_is rows id f h in flag_is b f ((λ e. g.0 (q.0 e)), (λ e. q.1 (g.1 e)))

pub flag_to : (rows : List Row) (id : Text) (b f : Bool) → HasFlag rows id f → b ≡ f → (b ≡ true) ↔ IsGiven rows id
flag_to rows id b f h s = let g = given_is rows id f h in ((λ e. g.1 (sym s ∙ e)), (λ q. s ∙ g.0 q))

-- the same of a flag that is given to have the field false
pub not_from : (rows : List Row) (id : Text) (b f : Bool) → HasFlag rows id f → (b ≡ false) ↔ IsGiven rows id → b ≡ not f
not_from rows id true f h q = let g = given_is rows id f h in go f (λ e. q.1 (g.1 e))
  where
    go : (f : Bool) → (f ≡ true → true ≡ false) → true ≡ not f
    go true k = k refl
    go false k = refl
not_from rows id false f h q = let g = given_is rows id f h in ap not (sym (g.0 (q.0 refl)))

pub not_to : (rows : List Row) (id : Text) (b f : Bool) → HasFlag rows id f → b ≡ not f → (b ≡ false) ↔ IsGiven rows id
not_to rows id b true h s = let g = given_is rows id true h in ((λ e. g.1 refl), (λ q. s))
not_to rows id b false h s = let g = given_is rows id false h in ((λ e. absurd (let x : true ≡ false = sym s ∙ e in cc)), (λ q. absurd (let x : false ≡ true = g.0 q in cc)))

-- ---- paths

pub paths_from : {A : Type 0} (rows : List Row) (ids paths : List Text) (texts : List (String A)) → map (λ id. first_of id rows) ids ≡ map Some paths → AreAt rows ids texts → map string_bytes texts ≡ paths
paths_from {A = A} rows ids paths texts are q = go paths texts (q ∙ are)
  where
    go : (paths : List Text) (texts : List (String A)) → map (λ text. Some (string_bytes text)) texts ≡ map Some paths → map string_bytes texts ≡ paths
    go [] [] e = refl
    go [] (t ∷ ts) e = cc
    go (p ∷ ps) [] e = cc
    go (p ∷ ps) (t ∷ ts) e =
        let here : string_bytes t ≡ p = cc in
        let more : map (λ text. Some (string_bytes text)) ts ≡ map Some ps = cc in
        ap (λ (x : Text). x ∷ map string_bytes ts) here ∙ ap (λ (xs : List Text). p ∷ xs) (go ps ts more)

pub paths_to : {A : Type 0} (rows : List Row) (ids paths : List Text) (texts : List (String A)) → map (λ id. first_of id rows) ids ≡ map Some paths → map string_bytes texts ≡ paths → AreAt rows ids texts
paths_to {A = A} rows ids paths texts are e = go texts ∙ ap (λ (ps : List Text). map Some ps) e ∙ sym are
  where
    go : (texts : List (String A)) → map (λ text. Some (string_bytes text)) texts ≡ map Some (map string_bytes texts)
    go [] = refl
    go (t ∷ ts) = ap (λ (xs : List (Option Text)). Some (string_bytes t) ∷ xs) (go ts)

-- no path is lacking
pub none_lacks : (rows : List Row) (ids paths : List Text) → map (λ id. first_of id rows) ids ≡ map Some paths → LacksOneOf rows ids → ⊥
none_lacks rows ids paths are lacks = lacks (go ids paths are)
  where
    go : (ids paths : List Text) → map (λ id. first_of id rows) ids ≡ map Some paths → All (λ id. IsSome (first_of id rows)) ids
    go [] ps e = All-nil (λ id. IsSome (first_of id rows))
    go (id ∷ ids) [] e = cc
    go (id ∷ ids) (p ∷ ps) e =
        let here : first_of id rows ≡ Some p = cc in
        let more : map (λ id. first_of id rows) ids ≡ map Some ps = cc in
        All-cons (λ id. IsSome (first_of id rows)) id ids (subst IsSome (sym here) refl) (go ids ps more)
