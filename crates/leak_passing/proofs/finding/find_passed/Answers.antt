-- From the lemmas of FoundLemmas and LeftLemmas.
use Rattle.std.proofs.Common.{◌∙◌, inl, ℕ, List, [], ◌∷◌, ◌++◌, refl, sym, ap, subst}
use Rattle.std.proofs.lemmas.Result.{err_from_is_err_and, IfErr-weaker, IfOk-weaker}
use Rattle.leak_index.specs.Readings.{distances_of}
use Rattle.leak_report.specs.declared.signs.Signs.{Signs}
use Rattle.leak_sift.specs.Behind.{bytes_behind}
use Rattle.leak_search.specs.Inputs.{IsFaultOfOne, IsRead}
use Rattle.leak_search.specs.Signs.{AreSigns}
use Rattle.leak_search.proofs.SignLemmas.{are_of_one}
use Rattle.leak_passing.proofs.FoundLemmas.{both_ok, finds_core, has_words, moved, refused_core, signs_core, whole_or_head}
use Rattle.leak_passing.proofs.ByTextLemmas.{read_as}
use Rattle.leak_passing.proofs.LeftLemmas.{core_passed, left_of_passed}
use Rattle.leak_passing.proofs.finding.find_passed.Goals as goal

pub input_of_passed-requires-clause-words : goal.input_of_passed-requires-clause-words
input_of_passed-requires-clause-words g c = has_words _ _ _ _ _ _ c.requires.2.kept

pub input_of_passed-requires-clause-head : goal.input_of_passed-requires-clause-head
input_of_passed-requires-clause-head g c = rw (c.as_slice.ensures.value) (whole_or_head _ _ _ _ _ _ c.requires.2.kept)

pub input_of_passed-requires-clause-read : goal.input_of_passed-requires-clause-read
input_of_passed-requires-clause-read g c = (c.requires.1, read_as c.requires.0 c.requires.1 c.args.rules.skip c.args.passed c.requires.2)

pub find_left-requires-clause-left : goal.find_left-requires-clause-left
find_left-requires-clause-left g c κs within =
    let core = c.requires.0 in
    let log = c.requires.1 in
    let is = c.requires.2 in
    let passed = c.args.passed in
    let read = subst (λ (h : List ℕ). IsRead (h ++ bytes_behind passed.words passed.len) log c.in_ok-whole.whole) c.as_slice.ensures.value
    (c.in_ok-whole.ensures.ok log (read_as core log c.args.rules.skip passed is)) in (
      c.args.lists_misfits,
      _,
      log,
      left_of_passed c.files_of_one_head.ensures.agree c.files_of_one_head.ensures.threads c.pruned_cores_are_marked_alike.ensures.marks c.pruned_cores_are_marked_alike.ensures.alike
          core log c.args.lists_misfits c.args.rules passed _ c.in_ok-whole.whole c.in_ok-consistency.consistency is c.in_ok-whole.ensures.full read refl refl c.left_to_mark.ensures
          c.without_core-others.ensures.threads c.without_core-others.ensures.live c.without_core-others.ensures.skip c.without_core-others.ensures.spans c.without_core-others.ensures.torn
          c.in_ok-consistency.ensures.fits,
    )

pub find_left-requires-clause-skip : goal.find_left-requires-clause-skip
find_left-requires-clause-skip g c κs within = c.without_core-others.ensures.skip ∙ c.in_ok-whole.ensures.skip

pub returns-in_err-whole-clause-refused : goal.returns-in_err-whole-clause-refused
returns-in_err-whole-clause-refused g c =
    let p = err_from_is_err_and c.from_residual.result c.from_residual.ensures.1 in
    let passed = c.args.passed in
    let e = c.in_err-whole.field-0.0 in
    rw (p.1, p.2) (λ other core log is.
    refused_core core log c.args.rules.skip passed is c.searches_of_sifted_cores.ensures.refused e
    (moved (λ f l. IsFaultOfOne f l e) _ _ _ _ (ap (λ (l : List ℕ). l ++ bytes_behind passed.words passed.len) c.as_slice.ensures.value) refl
    (inl (c.in_err-whole.ensures.refused other log (read_as core log c.args.rules.skip passed is)))))

pub returns-clause-ok : goal.returns-clause-ok
returns-clause-ok g c =
    let passed = c.args.passed in
    IfOk-weaker c.find_left.result _ _ (λ found finds core log is.
    let read = subst (λ (h : List ℕ). IsRead (h ++ bytes_behind passed.words passed.len) log c.in_ok-whole.whole) c.as_slice.ensures.value
    (c.in_ok-whole.ensures.ok log (read_as core log c.args.rules.skip passed is)) in
    finds_core core log c.args.rules.skip passed is c.searches_of_sifted_cores.ensures.found c.in_ok-whole.ensures.full
    (distances_of c.args.rules.reading) c.args.lists_misfits c.args.workers.now.plan.workers found
    (finds c.args.lists_misfits (core_passed passed) log (left_of_passed c.files_of_one_head.ensures.agree c.files_of_one_head.ensures.threads c.pruned_cores_are_marked_alike.ensures.marks c.pruned_cores_are_marked_alike.ensures.alike
    core log c.args.lists_misfits c.args.rules passed _ c.in_ok-whole.whole c.in_ok-consistency.consistency is c.in_ok-whole.ensures.full read refl refl c.left_to_mark.ensures
    c.without_core-others.ensures.threads c.without_core-others.ensures.live c.without_core-others.ensures.skip c.without_core-others.ensures.spans c.without_core-others.ensures.torn
    c.in_ok-consistency.ensures.fits))) c.find_left.ensures.ok

pub returns-clause-signs : goal.returns-clause-signs
returns-clause-signs g c =
    let passed = c.args.passed in
    both_ok c.find_left.result _ _ _ (λ found finds signs core log is.
    let read = subst (λ (h : List ℕ). IsRead (h ++ bytes_behind passed.words passed.len) log c.in_ok-whole.whole) c.as_slice.ensures.value
    (c.in_ok-whole.ensures.ok log (read_as core log c.args.rules.skip passed is)) in
    signs_core core log c.args.rules.skip passed is c.searches_of_sifted_cores.ensures.found c.searches_of_sifted_cores.ensures.signs c.in_ok-whole.ensures.full
    (distances_of c.args.rules.reading) c.args.lists_misfits c.args.workers.now.plan.workers found c.args.rules.other_heap
    (finds c.args.lists_misfits (core_passed passed) log (left_of_passed c.files_of_one_head.ensures.agree c.files_of_one_head.ensures.threads c.pruned_cores_are_marked_alike.ensures.marks c.pruned_cores_are_marked_alike.ensures.alike
    core log c.args.lists_misfits c.args.rules passed _ c.in_ok-whole.whole c.in_ok-consistency.consistency is c.in_ok-whole.ensures.full read refl refl c.left_to_mark.ensures
    c.without_core-others.ensures.threads c.without_core-others.ensures.live c.without_core-others.ensures.skip c.without_core-others.ensures.spans c.without_core-others.ensures.torn
    c.in_ok-consistency.ensures.fits))
    (subst (λ (ss : List Signs). AreSigns c.args.rules.other_heap (core_passed passed ∷ log ∷ []) ss) (sym signs)
    (are_of_one c.args.rules.other_heap (core_passed passed) log c.in_ok-whole.whole c.in_ok-consistency.consistency.signs.items read c.in_ok-consistency.ensures.signs)))
    c.find_left.ensures.ok c.find_left.ensures.signs

pub returns-clause-refused : goal.returns-clause-refused
returns-clause-refused g c =
    let passed = c.args.passed in
    IfErr-weaker c.find_left.result _ _ (λ e fault other core log is.
    let read = subst (λ (h : List ℕ). IsRead (h ++ bytes_behind passed.words passed.len) log c.in_ok-whole.whole) c.as_slice.ensures.value
    (c.in_ok-whole.ensures.ok log (read_as core log c.args.rules.skip passed is)) in
    refused_core core log c.args.rules.skip passed is c.searches_of_sifted_cores.ensures.refused e
    (fault other c.args.lists_misfits (core_passed passed) log (left_of_passed c.files_of_one_head.ensures.agree c.files_of_one_head.ensures.threads c.pruned_cores_are_marked_alike.ensures.marks c.pruned_cores_are_marked_alike.ensures.alike
    core log c.args.lists_misfits c.args.rules passed _ c.in_ok-whole.whole c.in_ok-consistency.consistency is c.in_ok-whole.ensures.full read refl refl c.left_to_mark.ensures
    c.without_core-others.ensures.threads c.without_core-others.ensures.live c.without_core-others.ensures.skip c.without_core-others.ensures.spans c.without_core-others.ensures.torn
    c.in_ok-consistency.ensures.fits))) c.find_left.ensures.refused
