-- A line of words of visible ASCII: how it is cut, and what it says.
use Rattle.std.proofs.Common.{◌≡◌, ℕ, zero, suc, ◌+◌, ◌-◌, ◌<◌, ◌≤◌, Bool, true, false, not, List, [], ◌∷◌, ◌++◌, length, take, drop, All, Option, Some, None, Result, Ok, Err, refl, ap, sym, ◌∙◌, arith, tests, append_assoc, length-append, length-drop}
use Rattle.std.proofs.Math.Seq.{take-append_seam, drop-append_seam, drop-append-add}
use Rattle.std.specs.Prelude.{◌==◌, ◌&&◌, nat_le, nat_lt, slice_range, IfSome, OnErr, if◌then◌else◌}
use Rattle.std.specs.Borrow.{Bor}
use Rattle.std.specs.Option.{option_map}
use Rattle.std.specs.List.{slice_split, onto_first, filter}
use Rattle.std.specs.Str.{IsUtf8}
use Rattle.std.proofs.lemmas.Bool.{leb-true, le-ltb}
use Rattle.std.proofs.lemmas.Str.{IsUtf8-from_ascii}
use Rattle.std.proofs.lemmas.Str.Ascii.{IsAscii-from_all}
use Rattle.std.proofs.lemmas.List.Elements.{All-append}
use Rattle.memchr.specs.Find.{Nowhere, Passes}
use Rattle.nats_plain.specs.declared.plain.PlainText.{PlainText}
use Rattle.nats_lines.specs.Operations.{Head, number_of, length_or_0, pieces_of, head_with, head_of_pieces, head_of, message, message_of, message_or_bad, plain, less, whole, cut_line, sight}
use Rattle.nats_lines.specs.Scan.{clear_to, Looked}
use Rattle.nats_plain.specs.Plain.{is_odd, IsVisible, IsWord, Parts, onto_count, words_text, line_text, plain_head}
use Rattle.nats_lines.proofs.Fronts.{sight_by_cut}
use Rattle.nats_lines.proofs.Pieces.{head_of_text}
use Rattle.nats_lines.proofs.Scans.{cut_found}

-- ---- what holds of each byte

all_nil : (P : ℕ → Type 0) → All P []
all_nil P = λ k d h. absurd (omega (arith, h))

all_cons : (P : ℕ → Type 0) (b : ℕ) (text : List ℕ) → P b → All P text → All P (b ∷ text)
all_cons P b text here rest zero d h = here
all_cons P b text here rest (suc k) d h = rest k d (omega (arith, h))

all_tail : (P : ℕ → Type 0) (b : ℕ) (text : List ℕ) → All P (b ∷ text) → All P text
all_tail P b text all = λ k d h. all (suc k) d (omega (arith, h))

all_head : (P : ℕ → Type 0) (b : ℕ) (text : List ℕ) → All P (b ∷ text) → P b
all_head P b text all = all 0 0 (omega arith)

visible_by : (low high : Bool) (b : ℕ) → nat_le 33 b ≡ low → nat_le b 126 ≡ high → (not (low && high) ≡ true → ⊥) → IsVisible b
visible_by true true b p q never = (leb-true 33 b p, leb-true b 126 q)
visible_by true false b p q never = absurd (never refl)
visible_by false high b p q never = absurd (never refl)

-- the bytes before the first odd one are visible
pub visible_front : (n : ℕ) (text : List ℕ) → n ≤ length text → Nowhere (Passes is_odd text) 0 n → All IsVisible (take n text)
visible_front zero text within never = all_nil IsVisible
visible_front (suc n) [] within never = absurd (omega arith)
visible_front (suc n) (b ∷ text) within never =
    all_cons IsVisible b (take n text) (visible_by (nat_le 33 b) (nat_le b 126) b refl refl (never 0 (omega arith) (omega arith)))
    (visible_front n text (omega arith) (λ k low high. never (suc k) (omega arith) (omega arith)))

-- ---- the end of the line

-- a byte of the line
abbrev pub IsShown : ℕ → Type 0
IsShown b = (32 ≤ b) × (b < 128)

shown : (text : List ℕ) → All IsVisible text → All IsShown text
shown text all = λ k d h. let is = all k d h in (omega (arith, is.0), omega (arith, is.1))

not_cr : (a b : ℕ) (inner : Bool) → 32 ≤ a → inner ≡ true → (not (a == 13 && b == 10) && inner) ≡ true
not_cr a b inner low is = let e : (a == 13) ≡ false = grind (arith, tests) in rw e is

-- no line ends within it
pub clear_shown : (line rest : List ℕ) → All IsShown line → 0 < length rest → clear_to (length line) (line ++ rest) ≡ true
clear_shown [] rest all some = refl
clear_shown (a ∷ []) [] all some = absurd (omega arith)
clear_shown (a ∷ []) (b ∷ rest) all some = not_cr a b true (all_head IsShown a [] all).0 refl
clear_shown (a ∷ b ∷ line) rest all some =
    not_cr a b (clear_to (length (b ∷ line)) ((b ∷ line) ++ rest)) (all_head IsShown a (b ∷ line) all).0
    (clear_shown (b ∷ line) rest (all_tail IsShown a (b ∷ line) all) some)

space : IsShown 32
space = (omega arith, omega arith)

onto_shown : (reply : Option (Bor (List ℕ))) (count : List ℕ) → IfSome reply (λ r. IsWord r.now) → IsWord count → All IsShown (onto_count reply count)
onto_shown None count r c = shown count c.1
onto_shown (Some reply) count r c =
    All-append IsShown reply.now (32 ∷ count) (shown reply.now r.1) (all_cons IsShown 32 count space (shown count c.1))

pub words_shown : (subject sid : List ℕ) (reply : Option (Bor (List ℕ))) (count : List ℕ) → IsWord subject → IsWord sid
    → IfSome reply (λ r. IsWord r.now) → IsWord count → All IsShown (words_text subject sid reply count)
words_shown subject sid reply count s d r c =
    let behind = sid ++ 32 ∷ onto_count reply count in
    All-append IsShown subject (32 ∷ behind) (shown subject s.1)
    (all_cons IsShown 32 behind space (All-append IsShown sid (32 ∷ onto_count reply count) (shown sid d.1)
    (all_cons IsShown 32 (onto_count reply count) space (onto_shown reply count r c))))

-- ---- what the line says

low_ascii : (text : List ℕ) → All IsShown text → All (λ b. b < 128) text
low_ascii text all = λ k d h. (all k d h).1

shown_utf8 : (text : List ℕ) → All IsShown text → IsUtf8 text
shown_utf8 text all = IsUtf8-from_ascii text (IsAscii-from_all text (low_ascii text all))

-- a word is text
pub word_utf8 : (word : List ℕ) → IsWord word → IsUtf8 word
word_utf8 word is = shown_utf8 word (shown word is.1)

kept : (test : Bool) (piece : List ℕ) (more : List (List ℕ)) → test ≡ false → (if not test then piece ∷ more else more) ≡ piece ∷ more
kept true piece more is = cc
kept false piece more is = refl

some_bytes : (word : List ℕ) → 0 < length word → (length word == 0) ≡ false
some_bytes word some = grind (arith, tests)

split_step : (test : Bool) (x : ℕ) (word : List ℕ) (texts : List (List ℕ)) → (x == 32) ≡ test → 33 ≤ x
    → (if test then [] ∷ (word ∷ texts) else onto_first x (word ∷ texts)) ≡ (x ∷ word) ∷ texts
split_step true x word texts is low = let e : (x == 32) ≡ false = grind (arith, tests) in absurd cc
split_step false x word texts is low = refl

split_word : (word rest : List ℕ) → All IsVisible word → slice_split (λ b. b == 32) (word ++ 32 ∷ rest) ≡ word ∷ slice_split (λ b. b == 32) rest
split_word [] rest all = refl
split_word (x ∷ word) rest all =
    ap (λ texts. if x == 32 then [] ∷ texts else onto_first x texts) (split_word word rest (all_tail IsVisible x word all))
    ∙ split_step (x == 32) x word (slice_split (λ b. b == 32) rest) refl (all_head IsVisible x word all).0

split_last : (word : List ℕ) → All IsVisible word → slice_split (λ b. b == 32) word ≡ word ∷ []
split_last [] all = refl
split_last (x ∷ word) all =
    ap (λ texts. if x == 32 then [] ∷ texts else onto_first x texts) (split_last word (all_tail IsVisible x word all))
    ∙ split_step (x == 32) x word [] refl (all_head IsVisible x word all).0

-- a word before a space is the first piece
pieces_word : (word rest : List ℕ) → IsWord word → pieces_of (word ++ 32 ∷ rest) ≡ word ∷ pieces_of rest
pieces_word word rest is =
    ap (filter (λ piece. not (length piece == 0))) (split_word word rest is.1)
    ∙ kept (length word == 0) word (pieces_of rest) (some_bytes word is.0)

pieces_last : (word : List ℕ) → IsWord word → pieces_of word ≡ word ∷ []
pieces_last word is =
    ap (filter (λ piece. not (length piece == 0))) (split_last word is.1) ∙ kept (length word == 0) word [] (some_bytes word is.0)

head_by : (subject sid : List ℕ) (reply : Option (Bor (List ℕ))) (count : List ℕ) → IfSome reply (λ r. IsWord r.now) → IsWord count
    → head_of_pieces (subject ∷ sid ∷ pieces_of (onto_count reply count))
    ≡ head_with subject (option_map (λ text. text.now) reply) (number_of sid) (number_of count)
head_by subject sid None count r c = ap (λ pieces. head_of_pieces (subject ∷ sid ∷ pieces)) (pieces_last count c)
head_by subject sid (Some reply) count r c =
    ap (λ pieces. head_of_pieces (subject ∷ sid ∷ pieces)) (pieces_word reply.now count r ∙ ap (λ pieces. reply.now ∷ pieces) (pieces_last count c))

head_said : (subject sid : List ℕ) (reply : Option (Bor (List ℕ))) (count : List ℕ) → IsWord subject → IsWord sid
    → IfSome reply (λ r. IsWord r.now) → IsWord count
    → head_of (words_text subject sid reply count) ≡ head_with subject (option_map (λ text. text.now) reply) (number_of sid) (number_of count)
head_said subject sid reply count s d r c =
    head_of_text (words_text subject sid reply count) (shown_utf8 (words_text subject sid reply count) (words_shown subject sid reply count s d r c))
    ∙ ap head_of_pieces (pieces_word subject (sid ++ 32 ∷ onto_count reply count) s
    ∙ ap (λ pieces. subject ∷ pieces) (pieces_word sid (onto_count reply count) d))
    ∙ head_by subject sid reply count r c

-- ---- what stands there

head_told : (subject : List ℕ) (reply : Option (List ℕ)) (sid count : Option ℕ) (n k : ℕ) → sid ≡ Some n → count ≡ Some k
    → head_with subject reply sid count ≡ Some (record { subject = subject; sid = n; reply = reply; count = k })
head_told subject reply sid count n k p q = rw (p, q) refl

enough : (test : Bool) (end : ℕ) (rest : List ℕ) (head : Head) → nat_lt (length rest) (head.count + 2) ≡ test → head.count + 2 ≤ length rest
    → (if test then less else whole (plain (message head.sid (message_of head (take head.count rest)))) (end + head.count + 4))
    ≡ whole (plain (message head.sid (message_of head (take head.count rest)))) (end + head.count + 4)
enough true end rest head is fits = let e : nat_lt (length rest) (head.count + 2) ≡ false = le-ltb _ _ fits in absurd cc
enough false end rest head is fits = refl

-- such a line, whose bytes are there, is that of a message
pub plain_seen : (bytes rest : List ℕ) (subject sid : List ℕ) (reply : Option (Bor (List ℕ))) (count : List ℕ) (n k : ℕ)
    → IsWord subject → IsWord sid → IfSome reply (λ r. IsWord r.now) → IsWord count → number_of sid ≡ Some n → number_of count ≡ Some k
    → k + 2 ≤ length rest
    → cut_line bytes ≡ Some (record { line = 77 ∷ 83 ∷ 71 ∷ 32 ∷ words_text subject sid reply count; rest = rest })
    → let head : Head = record { subject = subject; sid = n; reply = option_map (λ (t : Bor (List ℕ)). t.now) reply; count = k } in
    sight bytes ≡ whole (plain (message n (message_of head (take k rest)))) (length (77 ∷ 83 ∷ 71 ∷ 32 ∷ words_text subject sid reply count) + k + 4)
plain_seen bytes rest subject sid reply count n k s d r c p q fits cut =
    let head : Head = record { subject = subject; sid = n; reply = option_map (λ (t : Bor (List ℕ)). t.now) reply; count = k } in
    let line = 77 ∷ 83 ∷ 71 ∷ 32 ∷ words_text subject sid reply count in
    sight_by_cut bytes (Some (record { line = line; rest = rest })) (sym cut)
    ∙ ap (message_or_bad (length line) rest) (head_said subject sid reply count s d r c ∙ head_told subject _ (number_of sid) (number_of count) n k p q)
    ∙ enough (nat_lt (length rest) (k + 2)) (length line) rest head refl fits

pub on_err : {A E : Type 0} (r : Result A E) (P : Type 0) → P → OnErr r P
on_err (Ok x) P p = tt
on_err (Err e) P p = p

-- ---- in the bytes

part_at : (bytes front part rest : List ℕ) (i : ℕ) → bytes ≡ front ++ (part ++ rest) → i ≡ length front
    → slice_range bytes i (i + length part) ≡ part
part_at bytes front part rest i is place =
    let e : i + length part - i ≡ length part = omega arith in
    rw (e, is, place, drop-append_seam front (part ++ rest)) (take-append_seam part rest)

within_at : (bytes front part rest : List ℕ) (i : ℕ) → bytes ≡ front ++ (part ++ rest) → i ≡ length front → i + length part ≤ length bytes
within_at bytes front part rest i is place =
    omega (arith, ap length is, place, length-append front (part ++ rest), length-append part rest)

subject_cut : (t : PlainText) (bytes : List ℕ) → Parts t bytes
    → bytes ≡ (77 ∷ 83 ∷ 71 ∷ 32 ∷ []) ++ (t.line.subject.now ++ ((32 ∷ (t.line.sid.now ++ 32 ∷ onto_count t.line.reply t.line.count.now)) ++ t.line.rest.now))
subject_cut t bytes parts =
    parts.cut ∙ ap (λ (l : List ℕ). 77 ∷ 83 ∷ 71 ∷ 32 ∷ l)
    (append_assoc t.line.subject.now (32 ∷ (t.line.sid.now ++ 32 ∷ onto_count t.line.reply t.line.count.now)) t.line.rest.now)

-- the subject stands behind the first word
pub subject_there : (t : PlainText) (bytes : List ℕ) → Parts t bytes → slice_range bytes 4 (4 + length t.line.subject.now) ≡ t.line.subject.now
subject_there t bytes parts = part_at bytes (77 ∷ 83 ∷ 71 ∷ 32 ∷ []) t.line.subject.now ((32 ∷ (t.line.sid.now ++ 32 ∷ onto_count t.line.reply t.line.count.now)) ++ t.line.rest.now) 4 (subject_cut t bytes parts) refl

pub subject_within : (t : PlainText) (bytes : List ℕ) → Parts t bytes → 4 + length t.line.subject.now ≤ length bytes
subject_within t bytes parts = within_at bytes (77 ∷ 83 ∷ 71 ∷ 32 ∷ []) t.line.subject.now ((32 ∷ (t.line.sid.now ++ 32 ∷ onto_count t.line.reply t.line.count.now)) ++ t.line.rest.now) 4 (subject_cut t bytes parts) refl

regroup : (subject sid reply count rest : List ℕ)
    → (subject ++ 32 ∷ (sid ++ 32 ∷ (reply ++ 32 ∷ count))) ++ rest ≡ (subject ++ 32 ∷ (sid ++ 32 ∷ [])) ++ (reply ++ ((32 ∷ count) ++ rest))
regroup subject sid reply count rest = simp append_assoc

reply_cut : (subject sid : List ℕ) (given : Option (Bor (List ℕ))) (reply : Bor (List ℕ)) (count rest bytes : List ℕ) → given ≡ Some reply
    → bytes ≡ (77 ∷ 83 ∷ 71 ∷ 32 ∷ words_text subject sid given count) ++ rest
    → bytes ≡ (77 ∷ 83 ∷ 71 ∷ 32 ∷ (subject ++ 32 ∷ (sid ++ 32 ∷ []))) ++ (reply.now ++ ((32 ∷ count) ++ rest))
reply_cut subject sid given reply count rest bytes is cut =
    cut ∙ ap (λ g. (77 ∷ 83 ∷ 71 ∷ 32 ∷ words_text subject sid g count) ++ rest) is
    ∙ ap (λ (l : List ℕ). 77 ∷ 83 ∷ 71 ∷ 32 ∷ l) (regroup subject sid reply.now count rest)

reply_place : (subject sid : List ℕ) (i : ℕ) → i ≡ length subject + length sid + 6
    → i ≡ length (77 ∷ 83 ∷ 71 ∷ 32 ∷ (subject ++ 32 ∷ (sid ++ 32 ∷ [])))
reply_place subject sid i is =
    omega (arith, is, length-append subject (32 ∷ (sid ++ 32 ∷ [])), length-append sid (32 ∷ []))

-- the reply stands behind the number
pub reply_there : (t : PlainText) (reply : Bor (List ℕ)) (bytes : List ℕ) (i : ℕ) → t.line.reply ≡ Some reply → Parts t bytes
    → i ≡ length t.line.subject.now + length t.line.sid.now + 6 → slice_range bytes i (i + length reply.now) ≡ reply.now
reply_there t reply bytes i is parts place =
    part_at bytes (77 ∷ 83 ∷ 71 ∷ 32 ∷ (t.line.subject.now ++ 32 ∷ (t.line.sid.now ++ 32 ∷ []))) reply.now ((32 ∷ t.line.count.now) ++ t.line.rest.now) i
    (reply_cut t.line.subject.now t.line.sid.now t.line.reply reply t.line.count.now t.line.rest.now bytes is parts.cut)
    (reply_place t.line.subject.now t.line.sid.now i place)

pub reply_within : (t : PlainText) (reply : Bor (List ℕ)) (bytes : List ℕ) (i : ℕ) → t.line.reply ≡ Some reply → Parts t bytes
    → i ≡ length t.line.subject.now + length t.line.sid.now + 6 → i + length reply.now ≤ length bytes
reply_within t reply bytes i is parts place =
    within_at bytes (77 ∷ 83 ∷ 71 ∷ 32 ∷ (t.line.subject.now ++ 32 ∷ (t.line.sid.now ++ 32 ∷ []))) reply.now ((32 ∷ t.line.count.now) ++ t.line.rest.now) i
    (reply_cut t.line.subject.now t.line.sid.now t.line.reply reply t.line.count.now t.line.rest.now bytes is parts.cut)
    (reply_place t.line.subject.now t.line.sid.now i place)

-- the line ends where what follows it begins
pub end_is : (t : PlainText) (bytes : List ℕ) (end : ℕ) → Parts t bytes → end ≡ length bytes - length t.line.rest.now → end ≡ length (line_text t.line)
end_is t bytes end parts is = omega (arith, is, ap length parts.cut, length-append (line_text t.line) t.line.rest.now)

-- the payload stands two bytes behind the line
pub payload_there : (t : PlainText) (bytes : List ℕ) (end : ℕ) → Parts t bytes → end ≡ length bytes - length t.line.rest.now
    → slice_range bytes (end + 2) (end + 2 + t.count) ≡ take t.count (drop 2 t.line.rest.now)
payload_there t bytes end parts is =
    let e : end + 2 + t.count - (end + 2) ≡ t.count = omega arith in
    rw (e, parts.cut, end_is t bytes end parts is, drop-append-add (line_text t.line) t.line.rest.now 2) refl

pub payload_within : (t : PlainText) (bytes : List ℕ) (end : ℕ) → Parts t bytes → end ≡ length bytes - length t.line.rest.now
    → end + t.count + 4 ≤ length bytes
payload_within t bytes end parts is =
    omega (arith, end_is t bytes end parts is, ap length parts.cut, length-append (line_text t.line) t.line.rest.now, parts.fits)

reply_short : (subject sid : List ℕ) (reply : Option (Bor (List ℕ))) (count : List ℕ)
    → length_or_0 (option_map (λ (r : Bor (List ℕ)). r.now) reply) + length subject ≤ length (words_text subject sid reply count)
reply_short subject sid None count = omega (arith, length-append subject (32 ∷ (sid ++ 32 ∷ count)))
reply_short subject sid (Some reply) count =
    omega (arith, length-append subject (32 ∷ (sid ++ 32 ∷ (reply.now ++ 32 ∷ count))), length-append sid (32 ∷ (reply.now ++ 32 ∷ count)), length-append reply.now (32 ∷ count))

-- it is no longer than the bytes
pub length_fits : (t : PlainText) (bytes : List ℕ) → Parts t bytes
    → t.count + length_or_0 (option_map (λ (r : Bor (List ℕ)). r.now) t.line.reply) + length t.line.subject.now ≤ length bytes
length_fits t bytes parts =
    omega (arith, ap length parts.cut, length-append (line_text t.line) t.line.rest.now, parts.fits, reply_short t.line.subject.now t.line.sid.now t.line.reply t.line.count.now)

line_shown : (t : PlainText) (bytes : List ℕ) → Parts t bytes → All IsShown (line_text t.line)
line_shown t bytes parts =
    let words = words_text t.line.subject.now t.line.sid.now t.line.reply t.line.count.now in
    all_cons IsShown 77 (83 ∷ 71 ∷ 32 ∷ words) (omega arith, omega arith)
    (all_cons IsShown 83 (71 ∷ 32 ∷ words) (omega arith, omega arith)
    (all_cons IsShown 71 (32 ∷ words) (omega arith, omega arith)
    (all_cons IsShown 32 words space
    (words_shown t.line.subject.now t.line.sid.now t.line.reply t.line.count.now parts.words.0 parts.words.1 parts.words.3 parts.words.2))))

-- no line ends before the end of its last word
pub plain_clear : (t : PlainText) (bytes : List ℕ) (end : ℕ) → Parts t bytes → end ≡ length bytes - length t.line.rest.now → clear_to end bytes ≡ true
plain_clear t bytes end parts is =
    rw (end_is t bytes end parts is, parts.cut) (clear_shown (line_text t.line) t.line.rest.now (line_shown t bytes parts) (omega (arith, parts.fits)))

-- where its line ends there, such a message is what is seen
pub plain_whole : (t : PlainText) (bytes : List ℕ) (end : ℕ) (ended : Bool) → Parts t bytes → end ≡ length bytes - length t.line.rest.now
    → ended ≡ true → Looked end ended bytes
    → whole (plain (message t.sid (message_of (plain_head t) (take t.count (drop 2 t.line.rest.now))))) (end + t.count + 4) ≡ sight bytes
plain_whole t bytes end ended parts is e looked =
    let at = end_is t bytes end parts is in
    let front : take end bytes ≡ line_text t.line = rw (at, parts.cut) (take-append_seam (line_text t.line) t.line.rest.now) in
    let behind : drop (end + 2) bytes ≡ drop 2 t.line.rest.now = rw (at, parts.cut) (drop-append-add (line_text t.line) t.line.rest.now 2) in
    let cut : cut_line bytes ≡ Some (record { line = line_text t.line; rest = drop 2 t.line.rest.now }) =
    cut_found end ended bytes e looked ∙ rw (front, behind) refl in
    let left : t.count + 2 ≤ length (drop 2 t.line.rest.now) = omega (arith, parts.fits, length-drop 2 t.line.rest.now) in
    sym (plain_seen bytes (drop 2 t.line.rest.now) t.line.subject.now t.line.sid.now t.line.reply t.line.count.now t.sid t.count
    parts.words.0 parts.words.1 parts.words.3 parts.words.2 parts.sid parts.count left cut
    ∙ ap (λ n. whole (plain (message t.sid (message_of (plain_head t) (take t.count (drop 2 t.line.rest.now))))) (n + t.count + 4)) (sym at))
