-- Texts one after another.
use Rattle.std.proofs.Common.{◌≡◌, ◌∙◌, ℕ, ◌+◌, ◌-◌, ◌≤◌, List, [], ◌∷◌, ◌++◌, length, take, drop, refl, ap, ap₂, arith}
use Rattle.std.specs.List.{All}
use Rattle.std.proofs.lemmas.List.{length-append, length-drop, take-append-le, drop-append-le, map-append}
use Rattle.std.proofs.Math.Seq.{take-length, drop-append_seam}
use Rattle.std.proofs.lemmas.List.Elements.{All-head, All-tail, All-push, All-weaker}
use Rattle.leak_texts.specs.Texts.{IsWithin, bytes_at, texts_at}

-- more bytes leave what was there,
at-more : (bytes more : List ℕ) (p : ℕ × ℕ) → IsWithin bytes p → bytes_at (bytes ++ more) p ≡ bytes_at bytes p
at-more bytes more p is =
    let order : p.0 ≤ p.1 = is.order in
    let within : p.1 ≤ length bytes = is.within in
    ap (take (p.1 - p.0)) (drop-append-le p.0 bytes more (omega arith))
    ∙ take-append-le (p.1 - p.0) (drop p.0 bytes) more (omega (arith, length-drop p.0 bytes))

pub texts_at-more : (bytes more : List ℕ) (places : List (ℕ × ℕ)) → All (IsWithin bytes) places → texts_at (bytes ++ more) places ≡ texts_at bytes places
texts_at-more bytes more [] all = refl
texts_at-more bytes more (p ∷ places) all =
    ap₂ (λ (t : List ℕ) (ts : List (List ℕ)). t ∷ ts) (at-more bytes more p (All-head (IsWithin bytes) p places all))
    (texts_at-more bytes more places (All-tail (IsWithin bytes) p places all))

pub inside-more : (bytes more : List ℕ) (places : List (ℕ × ℕ)) → All (IsWithin bytes) places → All (IsWithin (bytes ++ more)) places
inside-more bytes more places all =
    let long : length (bytes ++ more) ≡ length bytes + length more = length-append bytes more in
    All-weaker (IsWithin bytes) (IsWithin (bytes ++ more)) (λ p is. record { order = is.order; within = omega (arith, is.within, long) }) places all

-- and are at the end
at-end : (bytes more : List ℕ) → bytes_at (bytes ++ more) (length bytes, length (bytes ++ more)) ≡ more
at-end bytes more =
    let long : length (bytes ++ more) - length bytes ≡ length more = omega (arith, length-append bytes more) in
    ap₂ (λ (n : ℕ) (t : List ℕ). take n t) long (drop-append_seam bytes more) ∙ take-length more

-- the place of what is added
abbrev pub end : List ℕ → List ℕ → ℕ × ℕ
end bytes text = (length bytes, length (bytes ++ text))

pub texts_at-push : (bytes text : List ℕ) (places : List (ℕ × ℕ)) → All (IsWithin bytes) places
    → texts_at (bytes ++ text) (places ++ end bytes text ∷ []) ≡ texts_at bytes places ++ text ∷ []
texts_at-push bytes text places all =
    map-append (bytes_at (bytes ++ text)) places (end bytes text ∷ [])
    ∙ ap₂ (λ (ts : List (List ℕ)) (t : List ℕ). ts ++ t ∷ []) (texts_at-more bytes text places all) (at-end bytes text)

pub inside-push : (bytes text : List ℕ) (places : List (ℕ × ℕ)) → All (IsWithin bytes) places → All (IsWithin (bytes ++ text)) (places ++ end bytes text ∷ [])
inside-push bytes text places all =
    let long : length (bytes ++ text) ≡ length bytes + length text = length-append bytes text in
    All-push (IsWithin (bytes ++ text)) places (end bytes text) (inside-more bytes text places all) (record { order = omega (arith, long); within = omega arith })
