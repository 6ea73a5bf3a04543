-- The fields of a table, before and after a text is added.
use Rattle.std.proofs.Common.{◌≡◌, ◌∙◌, ℕ, ◌+◌, ◌^◌, ◌<◌, cond, List, [], ◌∷◌, ◌++◌, length, take, Option, Some, Result, Ok, Err, OnErr, ap, sym, subst, arith}
use Rattle.std.specs.Str.{bytes_eq}
use Rattle.std.proofs.lemmas.List.{length-map, length_push, take-append-le}
use Rattle.std.proofs.Math.Seq.{take-length}
use Rattle.leak_texts.specs.Texts.{IsNew, bytes_at, texts_at}
use Rattle.leak_texts.specs.Finding.{Finds, IsTable}
use Rattle.leak_texts.proofs.PlaceLemmas.{end, inside-more, inside-push, texts_at-more, texts_at-push}
use Rattle.leak_texts.proofs.FindingLemmas.{finds-push, finds-same}

-- bytes that no text has
pub table-more : (bytes more : List ℕ) (places : List (ℕ × ℕ)) (find later : List ℕ → Option ℕ) → IsTable bytes places find → ((t : List ℕ) → later t ≡ find t) → IsTable (bytes ++ more) places later
table-more bytes more places find later table same = record {
  inside = inside-more bytes more places table.inside;
  finds = subst (Finds later) (sym (texts_at-more bytes more places table.inside)) (finds-same find later (texts_at bytes places) table.finds same);
  few = table.few;
}

-- one more text
pub table-push : (bytes text : List ℕ) (places : List (ℕ × ℕ)) (find later : List ℕ → Option ℕ) (n : ℕ) → IsTable bytes places find → IsNew (texts_at bytes places) text → n ≡ length places
    → n + 1 < 2 ^ 32 → ((t : List ℕ) → later t ≡ cond (bytes_eq text t) (Some n) (find t)) → IsTable (bytes ++ text) (places ++ end bytes text ∷ []) later
table-push bytes text places find later n table is_new last fits steps = record {
  inside = inside-push bytes text places table.inside;
  finds = subst (Finds later) (sym (texts_at-push bytes text places table.inside))
      (finds-push find later (texts_at bytes places) text n table.finds is_new (last ∙ sym (length-map places (bytes_at bytes))) steps);
  few = omega (arith, fits, last, length_push places (end bytes text));
}

-- the place of one more text is taken away
pub take-places : (places : List (ℕ × ℕ)) (p : ℕ × ℕ) (n : ℕ) → n ≡ length places → take n (places ++ p ∷ []) ≡ places
take-places places p n last =
    ap (λ (k : ℕ). take k (places ++ p ∷ [])) last ∙ take-append-le (length places) places (p ∷ []) (omega arith) ∙ take-length places

pub on_err : {T E P : Type 0} (r : Result T E) → P → OnErr r P
on_err (Ok x) p = tt
on_err (Err e) p = p
