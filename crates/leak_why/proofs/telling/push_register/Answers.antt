-- From lemmas of std.
use Rattle.std.proofs.Common.{◌≡◌, ◌++◌, ◌∙◌, List, ℕ, [], ap, sym, subst}
use Rattle.std.specs.Prelude.{OnOk, string_bytes}
use Rattle.std.proofs.lemmas.List.{drop_all}
use Rattle.leak_notes.specs.declared.sets.RegisterSet.{RegisterSet}
use Rattle.leak_why.specs.Text.{register_text}
use Rattle.leak_why.proofs.telling.push_register.Goals as goal

pub returns : goal.returns
returns c =
    let last : register_text c.loop-set.threads [] c.loop-set.left ≡ register_text 0 c.args.sets.now c.args.number =
    ap (λ (l : List RegisterSet). register_text c.loop-set.threads l c.loop-set.left) (sym (drop_all c.loop-set.set-index c.args.sets.now c.loop-set-test.false)) ∙ c.loop-set.invariant.same in
    subst (λ (l : List ℕ). OnOk c.write-2.result (string_bytes c.write-2.new.self ≡ l))
    (ap (λ b. string_bytes b ++ register_text c.loop-set.threads [] c.loop-set.left) c.loop-set.invariant.buffer ∙ ap (λ (l : List ℕ). string_bytes c.args.buffer.now ++ l) last)
    c.write-2.ensures.bytes
