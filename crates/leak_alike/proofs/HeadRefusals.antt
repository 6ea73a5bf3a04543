-- Files that agree in their faults are refused alike.
use Rattle.std.proofs.Common.{◌≡◌, ◌↔◌, ℕ, List, ◌++◌, length, sym}
use Rattle.leak_elf.specs.Head.{IsHead}
use Rattle.leak_search.specs.Inputs.{IsFaultOfOne}
use Rattle.leak_search.specs.declared.error.FindError.{FindError}
use Rattle.leak_alike.proofs.AlikeRefusals.{search_refused}
use Rattle.leak_alike.proofs.OneHeads.{agree_but_words}

pub head_refusals : (held rest other log : List ℕ) (e : FindError) → IsHead held → length rest ≡ length other
    → (IsFaultOfOne (held ++ rest) log e ↔ IsFaultOfOne (held ++ other) log e)
head_refusals held rest other log e head size =
    let here = agree_but_words held rest other head size in
    let there = agree_but_words held other rest head (sym size) in
    (search_refused (held ++ rest) (held ++ other) here.faults here.note_faults log e, search_refused (held ++ other) (held ++ rest) there.faults there.note_faults log e)
