-- Lines of callers, of leaked blocks and of misfits are told from what follows them.
use Rattle.std.proofs.Common.{◌≡◌, ℕ, Bool, true, false, List, ◌∷◌, ◌++◌, get_or, refl, sym, ap, ◌∙◌, arith, append_assoc}
use Rattle.std.specs.Prelude.{codes, decimal}
use Rattle.std.proofs.lemmas.List.{append_cancel_left}
use Rattle.leak_report.specs.Lines.{hexadecimal, kind_of}
use Rattle.leak_laws.specs.Told.{ToldCaller, ToldLeak, ToldMisfit, caller_text, leak_text, misfit_text}
use Rattle.leak_laws.specs.Readable.{IsCallerRead, IsLeakRead, IsMisfitRead}
use Rattle.leak_laws.proofs.Splits.{AreSame, split_address, split_at, split_number}
use Rattle.leak_laws.proofs.RowReading.{IsRowText, space_ends, space_ends_address}

flat_caller : (c : ToldCaller) (r : List ℕ) → caller_text c ++ r ≡ codes "caller " ++ (decimal c.blocks ++ (32 ∷ (decimal c.bytes ++ (32 ∷ (decimal c.heads ++ (32 ∷ (c.text ++ (10 ∷ r))))))))
flat_caller c r = simp append_assoc

caller_read : (x y : ToldCaller) (r s : List ℕ) → IsCallerRead x → IsCallerRead y → caller_text x ++ r ≡ caller_text y ++ s → AreSame x y r s
caller_read x y r s p q e =
    let e0 = append_cancel_left (codes "caller ") _ _ (sym (flat_caller x r) ∙ e ∙ flat_caller y s) in
    let blocks = split_number 32 x.blocks y.blocks _ _ space_ends p.blocks q.blocks e0 in
    let bytes = split_number 32 x.bytes y.bytes _ _ space_ends p.bytes q.bytes blocks.rest in
    let heads = split_number 32 x.heads y.heads _ _ space_ends p.heads q.heads bytes.rest in
    let text = split_at 10 x.text y.text r s p.text q.text heads.rest in
    record {
      part = ap (λ (n : ℕ). record { blocks = n; bytes = x.bytes; heads = x.heads; text = x.text }) blocks.part
          ∙ ap (λ (n : ℕ). record { blocks = y.blocks; bytes = n; heads = x.heads; text = x.text }) bytes.part
          ∙ ap (λ (n : ℕ). record { blocks = y.blocks; bytes = y.bytes; heads = n; text = x.text }) heads.part
          ∙ ap (λ (t : List ℕ). record { blocks = y.blocks; bytes = y.bytes; heads = y.heads; text = t }) text.part;
      rest = text.rest;
    }

pub caller_rows : IsRowText caller_text 99 IsCallerRead
caller_rows = record { begins = λ c. (_, refl); reads = caller_read }

flat_leak : (l : ToldLeak) (r : List ℕ) → leak_text l ++ r ≡ codes "leak " ++ (hexadecimal l.start ++ (32 ∷ (decimal l.size ++ (32 ∷ (decimal l.line ++ (32 ∷ (kind_of l.head ++ (32 ∷ (l.text ++ (10 ∷ r))))))))))
flat_leak l r = simp append_assoc

kind_read : (x y : Bool) (r s : List ℕ) → kind_of x ++ r ≡ kind_of y ++ s → AreSame x y r s
kind_read true true r s e = record { part = refl; rest = append_cancel_left (codes "head") r s e }
kind_read false false r s e = record { part = refl; rest = append_cancel_left (codes "held") r s e }
kind_read true false r s e = let n : 97 ≡ 108 = ap (λ (t : List ℕ). get_or t 2 0) e in absurd (omega (arith, n))
kind_read false true r s e = let n : 108 ≡ 97 = ap (λ (t : List ℕ). get_or t 2 0) e in absurd (omega (arith, n))

leak_read : (x y : ToldLeak) (r s : List ℕ) → IsLeakRead x → IsLeakRead y → leak_text x ++ r ≡ leak_text y ++ s → AreSame x y r s
leak_read x y r s p q e =
    let e0 = append_cancel_left (codes "leak ") _ _ (sym (flat_leak x r) ∙ e ∙ flat_leak y s) in
    let start = split_address 32 x.start y.start _ _ space_ends_address p.start q.start e0 in
    let size = split_number 32 x.size y.size _ _ space_ends p.size q.size start.rest in
    let line = split_number 32 x.line y.line _ _ space_ends p.line q.line size.rest in
    let kind = kind_read x.head y.head _ _ line.rest in
    let text = split_at 10 x.text y.text r s p.text q.text (append_cancel_left (codes " ") _ _ kind.rest) in
    record {
      part = ap (λ (n : ℕ). record { start = n; size = x.size; line = x.line; head = x.head; text = x.text }) start.part
          ∙ ap (λ (n : ℕ). record { start = y.start; size = n; line = x.line; head = x.head; text = x.text }) size.part
          ∙ ap (λ (n : ℕ). record { start = y.start; size = y.size; line = n; head = x.head; text = x.text }) line.part
          ∙ ap (λ (b : Bool). record { start = y.start; size = y.size; line = y.line; head = b; text = x.text }) kind.part
          ∙ ap (λ (t : List ℕ). record { start = y.start; size = y.size; line = y.line; head = y.head; text = t }) text.part;
      rest = text.rest;
    }

pub leak_examples : IsRowText leak_text 108 IsLeakRead
leak_examples = record { begins = λ l. (_, refl); reads = leak_read }

flat_misfit : (m : ToldMisfit) (r : List ℕ) → misfit_text m ++ r ≡ codes "misfit " ++ (hexadecimal m.start ++ (32 ∷ (decimal m.size ++ (32 ∷ (decimal m.line ++ (32 ∷ (m.text ++ (10 ∷ r))))))))
flat_misfit m r = simp append_assoc

misfit_read : (x y : ToldMisfit) (r s : List ℕ) → IsMisfitRead x → IsMisfitRead y → misfit_text x ++ r ≡ misfit_text y ++ s → AreSame x y r s
misfit_read x y r s p q e =
    let e0 = append_cancel_left (codes "misfit ") _ _ (sym (flat_misfit x r) ∙ e ∙ flat_misfit y s) in
    let start = split_address 32 x.start y.start _ _ space_ends_address p.start q.start e0 in
    let size = split_number 32 x.size y.size _ _ space_ends p.size q.size start.rest in
    let line = split_number 32 x.line y.line _ _ space_ends p.line q.line size.rest in
    let text = split_at 10 x.text y.text r s p.text q.text line.rest in
    record {
      part = ap (λ (n : ℕ). record { start = n; size = x.size; line = x.line; text = x.text }) start.part
          ∙ ap (λ (n : ℕ). record { start = y.start; size = n; line = x.line; text = x.text }) size.part
          ∙ ap (λ (n : ℕ). record { start = y.start; size = y.size; line = n; text = x.text }) line.part
          ∙ ap (λ (t : List ℕ). record { start = y.start; size = y.size; line = y.line; text = t }) text.part;
      rest = text.rest;
    }

pub misfit_rows : IsRowText misfit_text 109 IsMisfitRead
misfit_rows = record { begins = λ m. (_, refl); reads = misfit_read }
