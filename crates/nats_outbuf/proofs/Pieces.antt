-- Pieces, none of them empty.
use Rattle.std.specs.Prelude.{OnErr}
use Rattle.std.proofs.Common.{Result, Ok, Err, false, eqb, ◌≡◌, ℕ, zero, suc, ◌+◌, ◌-◌, ◌<◌, ◌≤◌, min, List, [], ◌∷◌, ◌++◌, length, take, drop, All, ap, ◌∙◌, sym, refl, arith, append-nil, length-append, append_assoc}
use Rattle.std.specs.Prelude.{slice_index_or}
use Rattle.std.proofs.Math.Seq.{take-append-add, take-append_seam}
use Rattle.std.proofs.lemmas.List.{length-take, take_all}
use Rattle.std.proofs.lemmas.List.Elements.{All-push, All-head, All-take}
use Rattle.std.specs.List.{concat}
use Rattle.nats_outbuf.specs.Buffers.{one_piece, Holds, IsFront}
use Rattle.bytes.proofs.Chunks.{concat_push, concat_some, IsChunkOf-take}

pub concat_one : (xs : List (List ℕ)) (piece : List ℕ) → concat (xs ++ one_piece piece) ≡ concat xs ++ piece
concat_one xs [] = ap concat (append-nil xs) ∙ sym (append-nil (concat xs))
concat_one xs (b ∷ bytes) = concat_push xs (b ∷ bytes)

all_one : (xs : List (List ℕ)) (piece : List ℕ) → All (λ p. 0 < length p) xs → All (λ p. 0 < length p) (xs ++ one_piece piece)
all_one xs [] all = rw (append-nil xs) all
all_one xs (b ∷ bytes) all = All-push (λ p. 0 < length p) xs (b ∷ bytes) all (omega arith)

nonempty : (piece : List ℕ) → eqb (length piece) 0 ≡ false → 0 < length piece
nonempty [] e = absurd cc
nonempty (b ∷ bytes) e = omega arith

-- a piece that is not empty is put last
pub holds_piece : (xs ys : List (List ℕ)) (piece : List ℕ) (len more : ℕ) → Holds xs len → eqb (length piece) 0 ≡ false → ys ≡ xs ++ piece ∷ []
    → more ≡ len + length piece → Holds ys more
holds_piece xs ys piece len more holds some is sum =
    let sizes = ap (λ (l : List (List ℕ)). length (concat l)) is ∙ ap length (concat_push xs piece) ∙ length-append (concat xs) piece in
    (omega (arith, holds.0), rw is (All-push (λ p. 0 < length p) xs piece holds.1 (nonempty piece some)))

-- ---- the first pieces

-- where there are pieces there are bytes
pub some_bytes : (xs : List (List ℕ)) (len : ℕ) → Holds xs len → 0 < length xs → 0 < length (concat xs)
some_bytes [] len holds some = absurd (omega arith)
some_bytes (x ∷ xs) len holds some = omega (arith, All-head (λ p. 0 < length p) x xs holds.1, length-append x (concat xs))

pub first_pieces : (xs : List (List ℕ)) (len n most : ℕ) → Holds xs len → n ≡ min (length xs) most → 0 < most → IsFront most (take n xs) (concat xs)
first_pieces xs len n most holds count some =
    let short : 0 < length (concat xs) → 0 < n = λ h. omega (arith, concat_some xs h) in
    let chunk = IsChunkOf-take xs n holds.1 short in
    record {
      joined = sym chunk.front;
      most = omega (arith, length-take n xs);
      nonempty = All-take (λ p. 0 < length p) n xs holds.1;
      some = λ h. omega (arith, length-take n xs, concat_some xs h);
    }

-- where fewer than so many are the first ones, they are all
pub all_pieces : (xs : List (List ℕ)) (n most : ℕ) → n ≡ min (length xs) most → length (take n xs) < most → concat (take n xs) ≡ concat xs
all_pieces xs n most count fewer = ap concat (take_all n xs (omega (arith, length-take n xs)))

-- ---- a copy of the first bytes

-- the bytes of the pieces from one on: its own, and those of the pieces behind it
from_piece : (xs : List (List ℕ)) (i : ℕ) (piece : List ℕ) → i < length xs → piece ≡ slice_index_or xs i piece
    → concat (drop i xs) ≡ piece ++ concat (drop (suc i) xs)
from_piece [] i piece inside is = absurd (omega arith)
from_piece (x ∷ xs) zero piece inside is = ap (λ (l : List ℕ). l ++ concat xs) (sym is)
from_piece (x ∷ xs) (suc i) piece inside is = from_piece xs i piece (omega arith) is

-- the first bytes of two texts are of the first one, as many as it has, and then of the other
pub take_two : (xs ys : List ℕ) (n : ℕ) → take n (xs ++ ys) ≡ take (min n (length xs)) xs ++ take (n - min n (length xs)) ys
take_two [] ys n =
    let e : min n 0 ≡ 0 = omega arith in
    let d : n - 0 ≡ n = omega arith in
    rw (e, d) refl
take_two (x ∷ xs) ys zero = let e : min 0 (suc (length xs)) ≡ 0 = omega arith in rw e refl
take_two (x ∷ xs) ys (suc n) =
    let e : min (suc n) (suc (length xs)) ≡ suc (min n (length xs)) = omega arith in
    let d : suc n - suc (min n (length xs)) ≡ n - min n (length xs) = omega arith in
    rw (e, d) (ap (λ (l : List ℕ). x ∷ l) (take_two xs ys n))

-- one more piece is copied, as much of it as is wanted
pub copy_step : (xs : List (List ℕ)) (i next left count : ℕ) (piece before copied all : List ℕ) → i < length xs → next ≡ suc i
    → piece ≡ slice_index_or xs i piece → count ≡ min left (length piece) → before ++ take left (concat (drop i xs)) ≡ all → copied ≡ before ++ take count piece
    → copied ++ take (left - count) (concat (drop next xs)) ≡ all
copy_step xs i next left count piece before copied all inside after is less whole more =
    let rest = concat (drop (suc i) xs) in
    ap (λ (k : ℕ). copied ++ take (left - count) (concat (drop k xs))) after
    ∙ ap (λ (l : List ℕ). l ++ take (left - count) rest) more
    ∙ append_assoc before (take count piece) (take (left - count) rest)
    ∙ ap (λ (k : ℕ). before ++ (take k piece ++ take (left - k) rest)) less
    ∙ ap (λ (l : List ℕ). before ++ l) (sym (take_two piece rest left) ∙ ap (take left) (sym (from_piece xs i piece inside is)))
    ∙ whole

-- ---- the last piece

-- the last bytes of all are those of the last piece
pub cut_of : (all front last : List ℕ) (taken : ℕ) → all ≡ front ++ last → taken ≤ length last → front ++ take (length last - taken) last ≡ take (length all - taken) all
cut_of all front last taken is within =
    let sizes : length all - taken ≡ length front + (length last - taken) = omega (arith, ap length is, length-append front last) in
    rw (sizes, is) (sym (take-append-add front last (length last - taken)))

-- a part of the last piece goes
pub holds_less : (xs rest ys : List (List ℕ)) (last : List ℕ) (len taken : ℕ) → Holds xs len → xs ≡ rest ++ last ∷ [] → taken ≤ length last
    → ys ≡ rest ++ one_piece (take (length last - taken) last) → Holds ys (len - taken)
holds_less xs rest ys last len taken holds is within new =
    let before = ap (λ (l : List (List ℕ)). length (concat l)) is ∙ ap length (concat_push rest last) ∙ length-append (concat rest) last in
    let kept = take (length last - taken) last in
    let after = ap (λ (l : List (List ℕ)). length (concat l)) new ∙ ap length (concat_one rest kept) ∙ length-append (concat rest) kept in
    let all = rw (take-append_seam rest (last ∷ [])) at (All-take (λ p. 0 < length p) (length rest) (rest ++ last ∷ []) (rw (sym is) holds.1)) in
    (omega (arith, holds.0, before, after, length-take (length last - taken) last), rw new (all_one rest kept all))

-- memory may be wanting where this is so
pub any_err : {T E : Type 0} (r : Result T E) (P : Type 0) → P → OnErr r P
any_err (Ok x) P p = tt
any_err (Err e) P p = p
