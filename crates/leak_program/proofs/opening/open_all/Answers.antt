-- From the lemmas of OpeningLemmas.
use Rattle.std.proofs.Math.Seq.{split_at}
use Rattle.std.proofs.Common.{List, ℕ, ◌++◌, ◌+◌, ◌≡◌, suc, rules, ◌∙◌, ap, sym, refl, map, string_bytes, take, drop, ◌∷◌, [], subst, append_assoc, inr}
use Rattle.std.proofs.lemmas.List.{map-append, take_more}
use Rattle.leak_program.specs.Opening.{AreOpened}
use Rattle.std.proofs.lemmas.Result.{err_from_is_err_and}
use Rattle.std.specs.IoError.{error_kind}
use Rattle.leak_program.specs.Reasons.{reason_of}
use Rattle.leak_program.proofs.OpeningLemmas.{none_opened, opened_more, part_opened}
use Rattle.leak_program.proofs.opening.open_all.Goals as goal

pub returns-in-Err-clause-refused : goal.returns-in-Err-clause-refused
returns-in-Err-clause-refused g c = record {
  earlier = map string_bytes (take c.loop-path.path-index c.args.paths.now);
  later = map string_bytes (drop (suc c.loop-path.path-index) c.args.paths.now);
  split = let whole : c.args.paths.now ≡ take c.loop-path.path-index c.args.paths.now ++ c.path-item.result ∷ drop (suc c.loop-path.path-index) c.args.paths.now = search (rules, split_at) in
      let told : string_bytes c.in_ok-path-in-Err.path ≡ string_bytes c.path-item.result = search rules in
      rw told (ap (map string_bytes) whole ∙ map-append string_bytes (take c.loop-path.path-index c.args.paths.now) _);
  files = c.loop-path.files.items;
  before = c.loop-path.opener;
  opened = c.loop-path.invariant.opened;
  error = c.in-Err.error;
  refused = search rules;
  reason_is = search rules;
}

-- those so far and the one that was just opened are a first part
pub returns-in_err-push-in-Ok-clause-refused : goal.returns-in_err-push-in-Ok-clause-refused
returns-in_err-push-in-Ok-clause-refused g c =
    let p = err_from_is_err_and c.from_residual-in_err-push-in-Ok.result c.from_residual-in_err-push-in-Ok.ensures.1 in
    let paths = c.args.paths.now in
    let at = c.loop-path.path-index in
    let whole : paths ≡ take at paths ++ c.path-item.result ∷ drop (suc at) paths = search (rules, split_at) in
    rw (p.1, p.2) (part_opened g.O.Opener.opens (map string_bytes paths) (map string_bytes (take at paths) ++ string_bytes c.path-item.result ∷ []) (map string_bytes (drop (suc at) paths))
    c.args.opener.now (c.loop-path.files.items ++ c.in-Ok.file ∷ []) c.open_file.new.self
    (ap (map string_bytes) whole ∙ map-append string_bytes (take at paths) _ ∙ sym (append_assoc (map string_bytes (take at paths)) (string_bytes c.path-item.result ∷ []) (map string_bytes (drop (suc at) paths))))
    (opened_more g.O.Opener.opens (map string_bytes (take at paths)) (string_bytes c.path-item.result) c.args.opener.now c.loop-path.files.items c.in-Ok.file c.loop-path.opener c.open_file.new.self c.loop-path.invariant.opened (search rules)))

pub returns-in_err-files-clause-refused : goal.returns-in_err-files-clause-refused
returns-in_err-files-clause-refused g c =
    let p = err_from_is_err_and c.from_residual.result c.from_residual.ensures.1 in
    rw (p.1, p.2) (none_opened g.O.Opener.opens (map string_bytes c.args.paths.now) c.args.opener.now)

-- the last one was refused
pub returns-in_err-path-in-Err-clause-refused : goal.returns-in_err-path-in-Err-clause-refused
returns-in_err-path-in-Err-clause-refused g c =
    let p = err_from_is_err_and c.from_residual-in_err-path-in-Err.result c.from_residual-in_err-path-in-Err.ensures.1 in
    let paths = c.args.paths.now in
    let at = c.loop-path.path-index in
    let whole : paths ≡ take at paths ++ c.path-item.result ∷ drop (suc at) paths = search (rules, split_at) in
    rw (p.1, p.2) (inr (
      string_bytes c.path-item.result,
      reason_of (error_kind c.in-Err.error),
      record {
        earlier = map string_bytes (take at paths);
        later = map string_bytes (drop (suc at) paths);
        split = ap (map string_bytes) whole ∙ map-append string_bytes (take at paths) _;
        files = c.loop-path.files.items;
        before = c.loop-path.opener;
        opened = c.loop-path.invariant.opened;
        error = c.in-Err.error;
        refused = search rules;
        reason_is = refl;
      },
    ))

pub loop-path-preserved : goal.loop-path-preserved
loop-path-preserved g c =
    let paths = c.args.paths.now in
    let at = c.loop-path.path-index in
    record {
      opened = subst (λ (ps : List (List ℕ)). AreOpened g.O.Opener.opens ps c.args.opener.now c.push.new.self.items c.open_file.new.self)
          (sym (map-append string_bytes (take at paths) (c.path-item.result ∷ [])) ∙ ap (map string_bytes) (sym (let more : take (at + 1) paths ≡ take at paths ++ c.path-item.result ∷ [] = search (rules, take_more) in more)))
          (subst (λ files. AreOpened g.O.Opener.opens (map string_bytes (take at paths) ++ string_bytes c.path-item.result ∷ []) c.args.opener.now files c.open_file.new.self)
          (search rules)
          (opened_more g.O.Opener.opens (map string_bytes (take at paths)) (string_bytes c.path-item.result) c.args.opener.now c.loop-path.files.items c.in-Ok.file c.loop-path.opener c.open_file.new.self c.loop-path.invariant.opened (search rules)));
      count = search rules;
    }
