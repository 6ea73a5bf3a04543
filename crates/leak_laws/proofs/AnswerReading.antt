-- Answers about chosen blocks are read from the first line to the last.
use Rattle.std.proofs.Common.{◌≡◌, ℕ, ◌<◌, Bool, true, false, List, [], ◌∷◌, ◌++◌, length, flat_map, get_or, map, Option, None, Some, refl, sym, ap, ◌∙◌, arith, append_assoc}
use Rattle.std.specs.Prelude.{codes, decimal, IfSome, if◌then◌else◌}
use Rattle.std.specs.List.{AllByRecursion, list_any}
use Rattle.std.specs.Option.{option_map_or}
use Rattle.std.proofs.lemmas.List.{append_cancel_left}
use Rattle.std.proofs.lemmas.Option.{slice_get-get_or}
use Rattle.leak_blocks.specs.declared.block.Block.{Block}
use Rattle.leak_report.specs.Lines.{blocks_line, hexadecimal, newline}
use Rattle.leak_report.specs.Totals.{marked_in}
use Rattle.leak_holders.specs.declared.caller_share.CallerShare.{CallerShare}
use Rattle.leak_holders.specs.declared.question.Side.{Side}
use Rattle.leak_holders.specs.declared.question.Side.TheVariants.{In, Of}
use Rattle.leak_why.specs.Text.{block_line, numbered_line}
use Rattle.leak_holder_search.specs.Held.{held_lines, held_text, part_line, side_word}
use Rattle.leak_laws.specs.Reports.{sum_of}
use Rattle.leak_laws.specs.Told.{Sum}
use Rattle.leak_laws.specs.ToldAnswers.{AreRowsRead, IsAnswerRead, IsEntryRead, IsPartRead, ToldAnswer, ToldEntry, ToldPart, ToldRows, answer_tells, answer_told, entry_text, part_text, rows_text, told_entry, told_part, told_rows}
use Rattle.leak_laws.proofs.GrowthReading.{last_rows}
use Rattle.leak_laws.proofs.ReportBytes.{flat_mapped}
use Rattle.leak_laws.proofs.RowReading.{space_ends, space_ends_address, sum_read}
use Rattle.leak_laws.proofs.Splits.{AreSame, split_address, split_at, split_number}

-- ---- the bytes

pub entry_is_told : (name log : List ℕ) (blocks : List Block) (i : ℕ) → i < length blocks
    → numbered_line name log blocks i ≡ entry_text name (told_entry log (get_or blocks i (record { start = 0; size = 0; line = 0; caller = (0, 0) })))
entry_is_told name log blocks i low = ap (λ (o : Option Block). option_map_or (block_line name log) o []) (slice_get-get_or blocks i (record { start = 0; size = 0; line = 0; caller = (0, 0) }) low)

parts_are_told : (side : Side) (texts : List (List ℕ)) (parts : List CallerShare) → flat_map (part_line side texts) parts ≡ flat_map (part_text side) (map (told_part texts) parts)
parts_are_told In texts parts = sym (flat_mapped (part_text In) (told_part texts) parts)
parts_are_told Of texts parts = sym (flat_mapped (part_text Of) (told_part texts) parts)

rows_are_told : (side : Side) (blocks : List Block) (own told : List Bool) (texts : List (List ℕ)) (parts : List CallerShare) → held_lines side blocks own told texts parts ≡ rows_text side (told_rows blocks own told texts parts)
rows_are_told side blocks own told texts parts = go (list_any (λ x. x) own)
  where
    go : (b : Bool) → (if b then blocks_line (codes "held") (marked_in told blocks) ++ flat_map (part_line side texts) parts else codes "leaked" ++ newline)
        ≡ rows_text side (if b then Some (record { sum = sum_of (marked_in told blocks); parts = map (told_part texts) parts }) else None)
    go true = ap (λ (rows : List ℕ). blocks_line (codes "held") (marked_in told blocks) ++ rows) (parts_are_told side texts parts)
    go false = refl

pub answer_is_told : (log : List ℕ) (blocks : List Block) (block : ℕ) (side : Side) (own told : List Bool) (texts : List (List ℕ)) (parts : List CallerShare) → block < length blocks
    → held_text log blocks block side own told texts parts ≡ answer_told side (answer_tells log blocks block own told texts parts)
unfolding held_text
answer_is_told log blocks block side own told texts parts low =
    ap (λ (front : List ℕ). front ++ held_lines side blocks own told texts parts) (entry_is_told (codes "asked") log blocks block low)
    ∙ ap (λ (rows : List ℕ). entry_text (codes "asked") (told_entry log (get_or blocks block (record { start = 0; size = 0; line = 0; caller = (0, 0) }))) ++ rows) (rows_are_told side blocks own told texts parts)

-- ---- lines

flat_entry : (name : List ℕ) (e : ToldEntry) (r : List ℕ) → entry_text name e ++ r ≡ name ++ (32 ∷ (hexadecimal e.start ++ (32 ∷ (decimal e.size ++ (32 ∷ (decimal e.line ++ (32 ∷ (e.text ++ (10 ∷ r)))))))))
flat_entry name e r = simp append_assoc

pub entry_read : (name : List ℕ) (x y : ToldEntry) (r s : List ℕ) → IsEntryRead x → IsEntryRead y → entry_text name x ++ r ≡ entry_text name y ++ s → AreSame x y r s
entry_read name x y r s p q e =
    let e0 = append_cancel_left name _ _ (sym (flat_entry name x r) ∙ e ∙ flat_entry name y s) in
    let start = split_address 32 x.start y.start _ _ space_ends_address p.start q.start (append_cancel_left (codes " ") _ _ e0) in
    let size = split_number 32 x.size y.size _ _ space_ends p.size q.size start.rest in
    let line = split_number 32 x.line y.line _ _ space_ends p.line q.line size.rest in
    let text = split_at 10 x.text y.text r s p.text q.text line.rest in
    record {
      part = ap (λ (n : ℕ). record { start = n; size = x.size; line = x.line; text = x.text }) start.part
          ∙ ap (λ (n : ℕ). record { start = y.start; size = n; line = x.line; text = x.text }) size.part
          ∙ ap (λ (n : ℕ). record { start = y.start; size = y.size; line = n; text = x.text }) line.part
          ∙ ap (λ (t : List ℕ). record { start = y.start; size = y.size; line = y.line; text = t }) text.part;
      rest = text.rest;
    }

flat_part : (side : Side) (p : ToldPart) (r : List ℕ) → part_text side p ++ r ≡ side_word side ++ (32 ∷ (decimal p.blocks ++ (32 ∷ (decimal p.bytes ++ (32 ∷ (p.text ++ (10 ∷ r)))))))
flat_part In p r = simp append_assoc
flat_part Of p r = simp append_assoc

part_read : (side : Side) (x y : ToldPart) (r s : List ℕ) → IsPartRead x → IsPartRead y → part_text side x ++ r ≡ part_text side y ++ s → AreSame x y r s
part_read side x y r s p q e =
    let e0 = append_cancel_left (side_word side) _ _ (sym (flat_part side x r) ∙ e ∙ flat_part side y s) in
    let blocks = split_number 32 x.blocks y.blocks _ _ space_ends p.blocks q.blocks (append_cancel_left (codes " ") _ _ e0) in
    let bytes = split_number 32 x.bytes y.bytes _ _ space_ends p.bytes q.bytes blocks.rest in
    let text = split_at 10 x.text y.text r s p.text q.text bytes.rest in
    record {
      part = ap (λ (n : ℕ). record { blocks = n; bytes = x.bytes; text = x.text }) blocks.part
          ∙ ap (λ (n : ℕ). record { blocks = y.blocks; bytes = n; text = x.text }) bytes.part
          ∙ ap (λ (t : List ℕ). record { blocks = y.blocks; bytes = y.bytes; text = t }) text.part;
      rest = text.rest;
    }

parts_read : (side : Side) (xs ys : List ToldPart) → AllByRecursion IsPartRead xs → AllByRecursion IsPartRead ys → flat_map (part_text side) xs ≡ flat_map (part_text side) ys → xs ≡ ys
parts_read In xs ys p q e = last_rows (part_text In) 105 IsPartRead (record { begins = λ x. (_, refl); reads = part_read In }) (λ z. omega (arith, z)) xs ys p q e
parts_read Of xs ys p q e = last_rows (part_text Of) 98 IsPartRead (record { begins = λ x. (_, refl); reads = part_read Of }) (λ z. omega (arith, z)) xs ys p q e

held_read : (side : Side) (x y : Option ToldRows) → IfSome x AreRowsRead → IfSome y AreRowsRead → rows_text side x ≡ rows_text side y → x ≡ y
held_read side None None p q e = refl
held_read side None (Some y) p q e = let n : 108 ≡ 104 = ap (λ (u : List ℕ). get_or u 0 0) e in absurd (omega (arith, n))
held_read side (Some x) None p q e = let n : 104 ≡ 108 = ap (λ (u : List ℕ). get_or u 0 0) e in absurd (omega (arith, n))
held_read side (Some x) (Some y) p q e =
    let sum = sum_read (codes "held") x.sum y.sum _ _ p.sum q.sum e in
    ap (λ (s : Sum). Some (record { sum = s; parts = x.parts })) sum.part ∙ ap (λ (ps : List ToldPart). Some (record { sum = y.sum; parts = ps })) (parts_read side x.parts y.parts p.parts q.parts sum.rest)

pub answers_read_back : (side : Side) (a b : ToldAnswer) → IsAnswerRead a → IsAnswerRead b → answer_told side a ≡ answer_told side b → a ≡ b
answers_read_back side a b p q e =
    let asked = entry_read (codes "asked") a.asked b.asked _ _ p.asked q.asked e in
    ap (λ (x : ToldEntry). record { asked = x; rows = a.rows }) asked.part ∙ ap (λ (rs : Option ToldRows). record { asked = b.asked; rows = rs }) (held_read side a.rows b.rows p.rows q.rows asked.rest)
