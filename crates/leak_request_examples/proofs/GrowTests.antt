-- What command lines ask of two logs, by the values that clap found.
use Rattle.std.proofs.Common.{◌≡◌, inl, inr, ⊎_elim, Bool, List, [], ◌∷◌, codes, map, Some, refl, sym, ◌∙◌}
use Rattle.clap.specs.Words.{Text}
use Rattle.clap.specs.Faults.{fault_of}
use Rattle.leak_request.specs.CommandLine.{command_line, grow_ids, grow_name}
use Rattle.leak_request.specs.Requests.{IsGrowRefusal, IsRefusedAt, IsRequest}
use Rattle.leak_request.specs.declared.fault.UsageFault.{UsageFault}
use Rattle.leak_request.specs.declared.fault.UsageFault.TheVariants as fault
use Rattle.leak_request.specs.declared.options.Request.{Request}
use Rattle.leak_request.specs.declared.options.Request.TheVariants.{Search, Why, Holders, Grow, Text as Shown}
use Rattle.leak_request_examples.specs.Requests.{AskFor}
use Rattle.leak_request_examples.specs.Questions.{IsGrowAsked}
use Rattle.leak_request_examples.proofs.RequestTests.{HasFlag, IsSeen, Values, flag_from, flag_to, name_in, none_lacks, paths_from, paths_to, refused_at, request_at, rows_in, seen, sees, value_at}
use Rattle.leak_request_examples.proofs.SearchTests.{flag_value, not_grow}
use Rattle.leak_request_examples.proofs.QuestionTests.{why_grow, holders_grow}

-- ---- what grew

pub sees_grow : (words : List Text) (paths : List Text) (strict : Bool) (numbers : Values) → fault_of command_line (codes "leak_find" ∷ words) ≡ []
    → seen grow_ids (codes "strict" ∷ []) (codes "leak_find" ∷ words) ≡ Some (grow_name, (map Some paths, (flag_value strict ∷ [], numbers))) → AskFor words (IsGrowAsked paths strict)
sees_grow words paths strict numbers taken q = record {
  request = λ r. let a = request_at all r s.taken in ((λ x. from r (a.0 x)), (λ x. a.1 (to r x)));
  taken = λ f x. ⊎_elim (λ e. fault_is f (refusal f e)) (λ e. e) (refused_at all f s.taken x);
}
  where
    all : List Text
    all = codes "leak_find" ∷ words

    s : IsSeen grow_ids (codes "strict" ∷ []) all grow_name (map Some paths) (flag_value strict ∷ []) numbers
    s = sees grow_ids (codes "strict" ∷ []) all _ _ _ _ taken q

    flag : HasFlag (rows_in all) (codes "strict") strict
    flag = value_at 0 _ _ s.values_are

    from : (r : Request) → IsRequest (name_in all) (rows_in all) r → IsGrowAsked paths strict r
    from (Search r) x = not_grow r.options.two (sym x.two ∙ s.named)
    from (Why r) x = why_grow (sym x.0 ∙ s.named)
    from (Holders r) x = holders_grow (sym x.0 ∙ s.named)
    from (Grow r) x = record { paths_are = paths_from (rows_in all) grow_ids paths r.paths.items s.there_is x.1.paths; strict_is = flag_from (rows_in all) (codes "strict") r.options.strict strict flag x.1.strict; log_limit = x.1.log_limit }
    from (Shown t) x = absurd x

    to : (r : Request) → IsGrowAsked paths strict r → IsRequest (name_in all) (rows_in all) r
    to (Search r) x = absurd x
    to (Why r) x = absurd x
    to (Holders r) x = absurd x
    to (Grow r) x = (s.named, record { paths = paths_to (rows_in all) grow_ids paths r.paths.items s.there_is x.paths_are; strict = flag_to (rows_in all) (codes "strict") r.options.strict strict flag x.strict_is; log_limit = x.log_limit })
    to (Shown t) x = absurd x

    refusal : (f : UsageFault) → IsRefusedAt (name_in all) (rows_in all) f → IsGrowRefusal (rows_in all) f
    refusal f (inl x) = absurd (why_grow (sym x.0 ∙ s.named))
    refusal f (inr (inl x)) = absurd (holders_grow (sym x.0 ∙ s.named))
    refusal f (inr (inr (inl x))) = x.1
    refusal f (inr (inr (inr x))) = absurd (x.0.grow s.named)

    fault_is : (f : UsageFault) → IsGrowRefusal (rows_in all) f → f ≡ fault.NoMemory
    fault_is (fault.Words t) x = absurd (none_lacks (rows_in all) grow_ids paths s.there_is x.1)
    fault_is (fault.Displace d) x = absurd x
    fault_is fault.Check x = absurd x
    fault_is fault.Sides x = absurd x
    fault_is fault.Block x = absurd x
    fault_is (fault.Address a) x = absurd x
    fault_is fault.NoMemory x = refl
