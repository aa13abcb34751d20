-- Text by text.
use Rattle.std.proofs.Common.{◌≡◌, ℕ, ◌+◌, ◌<◌, ◌^◌, Bool, true, false, List, [], ◌∷◌, ◌++◌, length, take, drop, map, Option, Some, None, refl, ap, sym, ◌∙◌, arith, append_assoc, append-nil, length-append, option_map}
use Rattle.std.specs.Prelude.{nat_lt, if◌then◌else◌, codes}
use Rattle.std.specs.Fmt.{decimal}
use Rattle.std.specs.List.{list_all}
use Rattle.std.specs.Str.{IsUtf8, is_utf8}
use Rattle.std.proofs.Math.Seq.{take-append_seam, drop-append_seam}
use Rattle.std.proofs.lemmas.Bool.{le-ltb}
use Rattle.std.proofs.lemmas.Str.{is_utf8-from_IsUtf8}
use Rattle.nats_header.specs.Headers.{Headers}
use Rattle.nats_header.specs.Block as written
use Rattle.nats_block.specs.declared.block.Block.{Block}
use Rattle.nats_block.specs.Block.{block_of}
use Rattle.nats_commands.specs.Commands.{sent_block}
use Rattle.nats_client_text.specs.Law.{AreHeadersOrNone, IsCounted}
use Rattle.nats_message.specs.declared.message.Message.{Message}
use Rattle.nats_lines.specs.declared.word.Word.TheVariants as word
use Rattle.nats_lines.specs.Operations.{Operation, message, error_op, pong_op, Cut, cut_line, word_of, Head, HeaderHead, head_with, head_of, head_of_pieces, header_head_of, header_head_of_words, with_block_len, message_of, with_block, length_or_0, OpText, plain, headed, headed_text, Sight, less, whole, message_or_bad, headed_or_bad, error_or_bad, error_by, error_of_text, without_quotes, sight_of_word, sight_of_cut, sight, op_of, lost_at, got_or_fault, front_of_sight, Front, got, front, past, behind, operations, number_of, pieces_of, words_of}
use Rattle.nats_lines.proofs.Fronts.{front_by_sight}
use Rattle.nats_lines.proofs.Pieces.{head_of_text}
use Rattle.nats_lines.proofs.Words.{header_head_of_text}
use Rattle.nats_lines.proofs.Reading.{operations_next}
use Rattle.nats_routing.specs.Texts.{crlf, message_text, no_responders}
use Rattle.nats_server_text.specs.Said.{Refusal, invalid_subject, unknown_operation, payload_violation, refusal_text, Said, hello, told, unanswered, refused, pong, said_text, said_texts, read_headers, read_message, read_unanswered, as_read}
use Rattle.nats_server_text.specs.Law.{IsWord, IsWordOrNone, IsTellable, AreTellable}
use Rattle.nats_server_text.proofs.Lines.{line_seen}
use Rattle.nats_server_text.proofs.Hello.{hello_stands}
use Rattle.nats_server_text.proofs.Blocks.{block_back, unanswered_block, unanswered_back}
use Rattle.nats_server_text.proofs.Cuts.{small_utf8, all_small, NoReturn, no_return_append, cut_clean, spaced, AreWords, spaced_clean, spaced_utf8, spaced_pieces, spaced_words, number_word, number_decimal}

-- ---- a line and the bytes behind it

body_step : (few : Bool) (text : OpText) (n : ℕ) → few ≡ false → (if few then less else whole text n) ≡ whole text n
body_step true text n is = cc
body_step false text n is = refl

enough : (body rest : List ℕ) → nat_lt (length (body ++ 13 ∷ 10 ∷ rest)) (length body + 2) ≡ false
enough body rest =
    le-ltb (length (body ++ 13 ∷ 10 ∷ rest)) (length body + 2) (omega (arith, length-append body (13 ∷ 10 ∷ rest)))

-- a body that is there whole
body_there : (text_of : List ℕ → OpText) (end : ℕ) (body rest : List ℕ)
    → (if nat_lt (length (body ++ 13 ∷ 10 ∷ rest)) (length body + 2) then less else whole (text_of (take (length body) (body ++ 13 ∷ 10 ∷ rest))) (end + length body + 4))
    ≡ whole (text_of body) (end + length body + 4)
body_there text_of end body rest =
    body_step (nat_lt (length (body ++ 13 ∷ 10 ∷ rest)) (length body + 2)) (text_of (take (length body) (body ++ 13 ∷ 10 ∷ rest))) (end + length body + 4) (enough body rest)
    ∙ ap (λ (bytes : List ℕ). whole (text_of bytes) (end + length body + 4)) (take-append_seam body (13 ∷ 10 ∷ rest))

-- ---- a message

abbrev head_by : List ℕ → ℕ → Option (List ℕ) → ℕ → Head
head_by subject sid respond count = record { subject = subject; sid = sid; reply = respond; count = count }

abbrev plain_words : ℕ → Option (List ℕ) → ℕ → List (List ℕ)
plain_words sid None count = decimal sid ∷ decimal count ∷ []
plain_words sid (Some reply) count = decimal sid ∷ reply ∷ decimal count ∷ []

plain_are : (sid : ℕ) (respond : Option (List ℕ)) (count : ℕ) → sid < 2 ^ 64 → IsWordOrNone respond → count < 2 ^ 64 → AreWords (plain_words sid respond count)
plain_are sid None count small is fits = (number_word sid small, (number_word count fits, tt))
plain_are sid (Some reply) count small is fits = (number_word sid small, (is, (number_word count fits, tt)))

plain_head : (subject : List ℕ) (sid : ℕ) (respond : Option (List ℕ)) (count : ℕ) → sid < 2 ^ 64 → count < 2 ^ 64
    → head_of_pieces (subject ∷ plain_words sid respond count) ≡ Some (head_by subject sid respond count)
plain_head subject sid None count small fits = rw (number_decimal sid small, number_decimal count fits) refl
plain_head subject sid (Some reply) count small fits = rw (number_decimal sid small, number_decimal count fits) refl

head_read : (subject : List ℕ) (sid : ℕ) (respond : Option (List ℕ)) (count : ℕ) → IsWord subject → sid < 2 ^ 64 → IsWordOrNone respond → count < 2 ^ 64
    → head_of (spaced subject (plain_words sid respond count)) ≡ Some (head_by subject sid respond count)
head_read subject sid respond count is small other fits =
    let words = plain_words sid respond count in
    let are = plain_are sid respond count small other fits in
    head_of_text (spaced subject words) (spaced_utf8 subject words is are)
    ∙ ap head_of_pieces (spaced_pieces subject words is are)
    ∙ plain_head subject sid respond count small fits

abbrev plain_line : List ℕ → ℕ → Option (List ℕ) → ℕ → List ℕ
plain_line subject sid respond count = codes "MSG " ++ spaced subject (plain_words sid respond count)

plain_clean : (subject : List ℕ) (sid : ℕ) (respond : Option (List ℕ)) (count : ℕ) → IsWord subject → sid < 2 ^ 64 → IsWordOrNone respond → count < 2 ^ 64
    → NoReturn (plain_line subject sid respond count)
plain_clean subject sid respond count is small other fits =
    no_return_append (codes "MSG ") (spaced subject (plain_words sid respond count)) (refl, (refl, (refl, (refl, tt))))
    (spaced_clean subject (plain_words sid respond count) is (plain_are sid respond count small other fits))

plain_front : (subject : List ℕ) (sid : ℕ) (respond : Option (List ℕ)) (payload rest : List ℕ) → IsWord subject → sid < 2 ^ 64 → IsWordOrNone respond → length payload < 2 ^ 64
    → front (plain_line subject sid respond (length payload) ++ 13 ∷ 10 ∷ (payload ++ 13 ∷ 10 ∷ rest))
    ≡ got (message sid (message_of (head_by subject sid respond (length payload)) payload)) (length (plain_line subject sid respond (length payload)) + length payload + 4)
plain_front subject sid respond payload rest is small other fits =
    let line = plain_line subject sid respond (length payload) in
    let head = head_by subject sid respond (length payload) in
    let more = payload ++ 13 ∷ 10 ∷ rest in
    let op = message sid (message_of head payload) in
    front_by_sight (line ++ 13 ∷ 10 ∷ more) (whole (plain op) (length line + length payload + 4))
    (sym (line_seen line more (whole (plain op) (length line + length payload + 4)) (plain_clean subject sid respond (length payload) is small other fits)
    (ap (message_or_bad (length line) more) (head_read subject sid respond (length payload) is small other fits)
    ∙ body_there (λ bytes. plain (message sid (message_of head bytes))) (length line) payload rest)))

-- ---- a message with a block

abbrev headed_words : ℕ → Option (List ℕ) → ℕ → ℕ → List (List ℕ)
headed_words sid None block_len count = decimal sid ∷ decimal block_len ∷ decimal count ∷ []
headed_words sid (Some reply) block_len count = decimal sid ∷ reply ∷ decimal block_len ∷ decimal count ∷ []

headed_are : (sid : ℕ) (respond : Option (List ℕ)) (block_len count : ℕ) → sid < 2 ^ 64 → IsWordOrNone respond → block_len < 2 ^ 64 → count < 2 ^ 64
    → AreWords (headed_words sid respond block_len count)
headed_are sid None block_len count small is below fits = (number_word sid small, (number_word block_len below, (number_word count fits, tt)))
headed_are sid (Some reply) block_len count small is below fits =
    (number_word sid small, (is, (number_word block_len below, (number_word count fits, tt))))

abbrev header_head : List ℕ → ℕ → Option (List ℕ) → ℕ → ℕ → HeaderHead
header_head subject sid respond block_len count =
    record { head = head_by subject sid respond count; block_len = block_len }

within : (few : Bool) (h : HeaderHead) → few ≡ false → (if few then None else Some h) ≡ Some h
within true h is = cc
within false h is = refl

headed_head : (subject : List ℕ) (sid : ℕ) (respond : Option (List ℕ)) (block_len more : ℕ) → sid < 2 ^ 64 → block_len + more < 2 ^ 64
    → header_head_of_words (subject ∷ headed_words sid respond block_len (block_len + more)) ≡ Some (header_head subject sid respond block_len (block_len + more))
headed_head subject sid None block_len more small fits =
    let enough : nat_lt (block_len + more) block_len ≡ false = le-ltb (block_len + more) block_len (omega arith) in
    rw (number_decimal sid small, number_decimal block_len (omega (arith, fits)), number_decimal (block_len + more) fits)
    (within (nat_lt (block_len + more) block_len) (header_head subject sid None block_len (block_len + more)) enough)
headed_head subject sid (Some reply) block_len more small fits =
    let enough : nat_lt (block_len + more) block_len ≡ false = le-ltb (block_len + more) block_len (omega arith) in
    rw (number_decimal sid small, number_decimal block_len (omega (arith, fits)), number_decimal (block_len + more) fits)
    (within (nat_lt (block_len + more) block_len) (header_head subject sid (Some reply) block_len (block_len + more)) enough)

abbrev headed_line : List ℕ → ℕ → Option (List ℕ) → ℕ → ℕ → List ℕ
headed_line subject sid respond block_len count = codes "HMSG " ++ spaced subject (headed_words sid respond block_len count)

header_read : (subject : List ℕ) (sid : ℕ) (respond : Option (List ℕ)) (block_len more : ℕ) → IsWord subject → sid < 2 ^ 64 → IsWordOrNone respond → block_len + more < 2 ^ 64
    → header_head_of (spaced subject (headed_words sid respond block_len (block_len + more))) ≡ Some (header_head subject sid respond block_len (block_len + more))
header_read subject sid respond block_len more is small other fits =
    let words = headed_words sid respond block_len (block_len + more) in
    let are = headed_are sid respond block_len (block_len + more) small other (omega (arith, fits)) fits in
    header_head_of_text (spaced subject words) (spaced_utf8 subject words is are)
    ∙ ap header_head_of_words (spaced_words subject words is are)
    ∙ headed_head subject sid respond block_len more small fits

headed_clean : (subject : List ℕ) (sid : ℕ) (respond : Option (List ℕ)) (block_len more : ℕ) → IsWord subject → sid < 2 ^ 64 → IsWordOrNone respond → block_len + more < 2 ^ 64
    → NoReturn (headed_line subject sid respond block_len (block_len + more))
headed_clean subject sid respond block_len more is small other fits =
    no_return_append (codes "HMSG ") (spaced subject (headed_words sid respond block_len (block_len + more))) (refl, (refl, (refl, (refl, (refl, tt)))))
    (spaced_clean subject (headed_words sid respond block_len (block_len + more)) is (headed_are sid respond block_len (block_len + more) small other (omega (arith, fits)) fits))

headed_seen : (subject : List ℕ) (sid : ℕ) (respond : Option (List ℕ)) (block payload rest : List ℕ) → IsWord subject → sid < 2 ^ 64 → IsWordOrNone respond
    → length block + length payload < 2 ^ 64
    → sight (headed_line subject sid respond (length block) (length block + length payload) ++ 13 ∷ 10 ∷ ((block ++ payload) ++ 13 ∷ 10 ∷ rest))
    ≡ whole (headed sid (message_of (head_by subject sid respond (length block + length payload)) payload) block)
    (length (headed_line subject sid respond (length block) (length block + length payload)) + (length block + length payload) + 4)
headed_seen subject sid respond block payload rest is small other fits =
    let total = length block + length payload in
    let line = headed_line subject sid respond (length block) total in
    let h = header_head subject sid respond (length block) total in
    let more = (block ++ payload) ++ 13 ∷ 10 ∷ rest in
    let size : length (block ++ payload) ≡ total = length-append block payload in
    let there = rw size at (body_there (headed_text h) (length line) (block ++ payload) rest) in
    line_seen line more (whole (headed sid (message_of h.head payload) block) (length line + total + 4)) (headed_clean subject sid respond (length block) (length payload) is small other fits)
    (ap (headed_or_bad (length line) more) (header_read subject sid respond (length block) (length payload) is small other fits)
    ∙ there
    ∙ ap (λ (behind : List ℕ). whole (headed sid (message_of h.head behind) (take (length block) (block ++ payload))) (length line + total + 4)) (drop-append_seam block payload)
    ∙ ap (λ (front : List ℕ). whole (headed sid (message_of h.head payload) front) (length line + total + 4)) (take-append_seam block payload))

headed_front : (subject : List ℕ) (sid : ℕ) (respond : Option (List ℕ)) (block payload rest : List ℕ) (says : Block) → IsWord subject → sid < 2 ^ 64 → IsWordOrNone respond
    → length block + length payload < 2 ^ 64 → block_of block ≡ Some says
    → front (headed_line subject sid respond (length block) (length block + length payload) ++ 13 ∷ 10 ∷ ((block ++ payload) ++ 13 ∷ 10 ∷ rest))
    ≡ got (message sid (with_block (message_of (head_by subject sid respond (length block + length payload)) payload) says))
    (length (headed_line subject sid respond (length block) (length block + length payload)) + (length block + length payload) + 4)
headed_front subject sid respond block payload rest says is small other fits reads =
    let total = length block + length payload in
    let line = headed_line subject sid respond (length block) total in
    let m = message_of (head_by subject sid respond total) payload in
    let n = length line + total + 4 in
    front_by_sight (line ++ 13 ∷ 10 ∷ ((block ++ payload) ++ 13 ∷ 10 ∷ rest)) (whole (headed sid m block) n)
    (sym (headed_seen subject sid respond block payload rest is small other fits))
    ∙ ap (λ found. got_or_fault n n (option_map (λ b. message sid (with_block m b)) found)) reads

-- ---- the texts

plain_parts : (v s a b c e p r : List ℕ) → ((v ++ a ++ s ++ b ++ s ++ [] ++ c ++ e ++ p ++ e) ++ r) ≡ (v ++ (a ++ (s ++ (b ++ (s ++ c))))) ++ (e ++ (p ++ (e ++ r)))
plain_parts v s a b c e p r = simp append_assoc

reply_parts : (v s a b d c e p r : List ℕ) → ((v ++ a ++ s ++ b ++ s ++ (d ++ s) ++ c ++ e ++ p ++ e) ++ r) ≡ (v ++ (a ++ (s ++ (b ++ (s ++ (d ++ (s ++ c))))))) ++ (e ++ (p ++ (e ++ r)))
reply_parts v s a b d c e p r = simp append_assoc

headed_parts : (v s a b h t e k p r : List ℕ) → ((v ++ a ++ s ++ b ++ s ++ [] ++ h ++ s ++ t ++ e ++ k ++ p ++ e) ++ r)
    ≡ (v ++ (a ++ (s ++ (b ++ (s ++ (h ++ (s ++ t))))))) ++ (e ++ ((k ++ p) ++ (e ++ r)))
headed_parts v s a b h t e k p r = simp append_assoc

headed_reply_parts : (v s a b d h t e k p r : List ℕ) → ((v ++ a ++ s ++ b ++ s ++ (d ++ s) ++ h ++ s ++ t ++ e ++ k ++ p ++ e) ++ r)
    ≡ (v ++ (a ++ (s ++ (b ++ (s ++ (d ++ (s ++ (h ++ (s ++ t))))))))) ++ (e ++ ((k ++ p) ++ (e ++ r)))
headed_reply_parts v s a b d h t e k p r = simp append_assoc

-- a text that stands before others, by its line and its body
abbrev ByLine : List ℕ → List ℕ → List ℕ → Type 0
ByLine text line body = (rest : List ℕ) → text ++ rest ≡ line ++ 13 ∷ 10 ∷ (body ++ 13 ∷ 10 ∷ rest)

plain_by_line : (subject : List ℕ) (sid : ℕ) (respond : Option (List ℕ)) (payload : List ℕ)
    → ByLine (message_text sid subject respond None payload) (plain_line subject sid respond (length payload)) payload
plain_by_line subject sid None payload rest =
    plain_parts (codes "MSG ") (codes " ") subject (decimal sid) (decimal (length payload)) crlf payload rest
plain_by_line subject sid (Some reply) payload rest =
    reply_parts (codes "MSG ") (codes " ") subject (decimal sid) reply (decimal (length payload)) crlf payload rest

headed_by_line : (subject : List ℕ) (sid : ℕ) (respond : Option (List ℕ)) (block payload : List ℕ)
    → ByLine (message_text sid subject respond (Some block) payload) (headed_line subject sid respond (length block) (length block + length payload)) (block ++ payload)
headed_by_line subject sid None block payload rest =
    headed_parts (codes "HMSG ") (codes " ") subject (decimal sid) (decimal (length block)) (decimal (length block + length payload)) crlf block payload rest
headed_by_line subject sid (Some reply) block payload rest =
    headed_reply_parts (codes "HMSG ") (codes " ") subject (decimal sid) reply (decimal (length block)) (decimal (length block + length payload)) crlf block payload rest

by_line_length : (text line body : List ℕ) → ByLine text line body → length text ≡ length line + length body + 4
by_line_length text line body by =
    let whole : text ≡ line ++ 13 ∷ 10 ∷ (body ++ 13 ∷ 10 ∷ []) = sym (append-nil text) ∙ by [] in
    ap length whole ∙ length-append line (13 ∷ 10 ∷ (body ++ 13 ∷ 10 ∷ [])) ∙ omega (arith, length-append body (13 ∷ 10 ∷ []))

-- what stands at the front of some texts: the first of them
abbrev Stands : Said → Type 0
Stands said = (rest : List ℕ) → front (said_text said ++ rest) ≡ got (as_read said) (length (said_text said))

by_line_front : (text line body rest : List ℕ) (op : Operation) → ByLine text line body
    → front (line ++ 13 ∷ 10 ∷ (body ++ 13 ∷ 10 ∷ rest)) ≡ got op (length line + length body + 4)
    → front (text ++ rest) ≡ got op (length text)
by_line_front text line body rest op by is =
    ap front (by rest) ∙ is ∙ ap (got op) (sym (by_line_length text line body by))

plain_stands : (sid : ℕ) (subject : List ℕ) (respond : Option (List ℕ)) (payload rest : List ℕ) → sid < 2 ^ 64 → IsWord subject → IsWordOrNone respond → length payload < 2 ^ 64
    → front (message_text sid subject respond None payload ++ rest)
    ≡ got (message sid (message_of (head_by subject sid respond (length payload)) payload)) (length (message_text sid subject respond None payload))
plain_stands sid subject respond payload rest small is other fits =
    by_line_front (message_text sid subject respond None payload) (plain_line subject sid respond (length payload)) payload rest
    (message sid (message_of (head_by subject sid respond (length payload)) payload)) (plain_by_line subject sid respond payload)
    (plain_front subject sid respond payload rest is small other fits)

headed_stands : (sid : ℕ) (subject : List ℕ) (respond : Option (List ℕ)) (block payload rest : List ℕ) (says : Block) → sid < 2 ^ 64 → IsWord subject → IsWordOrNone respond
    → length block + length payload < 2 ^ 64 → block_of block ≡ Some says
    → front (message_text sid subject respond (Some block) payload ++ rest)
    ≡ got (message sid (with_block (message_of (head_by subject sid respond (length block + length payload)) payload) says)) (length (message_text sid subject respond (Some block) payload))
headed_stands sid subject respond block payload rest says small is other fits reads =
    let line = headed_line subject sid respond (length block) (length block + length payload) in
    let op = message sid (with_block (message_of (head_by subject sid respond (length block + length payload)) payload) says) in
    by_line_front (message_text sid subject respond (Some block) payload) line (block ++ payload) rest op (headed_by_line subject sid respond block payload)
    (headed_front subject sid respond block payload rest says is small other fits reads
    ∙ ap (λ n. got op (length line + n + 4)) (sym (length-append block payload)))

-- ---- what is told, one by one

told_stands : (sid : ℕ) (subject : List ℕ) (respond : Option (List ℕ)) (headers : Option Headers) (payload : List ℕ) → sid < 2 ^ 64 → IsWord subject → IsWordOrNone respond
    → AreHeadersOrNone headers → IsCounted (sent_block headers) payload → Stands (told sid subject respond headers payload)
told_stands sid subject respond None payload small is other are fits rest =
    plain_stands sid subject respond payload rest small is other fits
told_stands sid subject respond (Some []) payload small is other are fits rest =
    plain_stands sid subject respond payload rest small is other fits
told_stands sid subject respond (Some (field ∷ fields)) payload small is other are fits rest =
    headed_stands sid subject respond (written.block_text (field ∷ fields)) payload rest _ small is other fits (block_back (field ∷ fields) are)

small_text : (text : List ℕ) → list_all (λ b. nat_lt b 128) text ≡ true → is_utf8 text ≡ true
small_text text are = is_utf8-from_IsUtf8 text (small_utf8 text (all_small text are))

abbrev quoted : Refusal → List ℕ
quoted why = codes "'" ++ refusal_text why ++ codes "'"

-- what a test that holds decides of the text behind it
told_error : (text : List ℕ) → list_all (λ b. nat_lt b 128) text ≡ true
    → error_of_text text ≡ Some (error_by (without_quotes text))
told_error text are =
    ap (λ test. if test then Some (error_by (without_quotes text)) else None) (small_text text are)

refused_stands : (why : Refusal) → Stands (refused why)
unfolding front sight
refused_stands invalid_subject rest =
    ap (λ error. front_of_sight (error_or_bad 24 error)) (told_error (quoted invalid_subject) refl)
refused_stands unknown_operation rest =
    ap (λ error. front_of_sight (error_or_bad 35 error)) (told_error (quoted unknown_operation) refl)
refused_stands payload_violation rest =
    ap (λ error. front_of_sight (error_or_bad 34 error)) (told_error (quoted payload_violation) refl)

pong_stands : Stands pong
unfolding front sight
pong_stands rest = refl

-- the status alone stands in the block
abbrev unanswered_by : ℕ → List ℕ → ℕ → Operation
unanswered_by sid subject n = message sid (record (read_unanswered subject) { length = n })

unanswered_stands : (sid : ℕ) (subject : List ℕ) → sid < 2 ^ 64 → IsWord subject → Stands (unanswered sid subject)
unanswered_stands sid subject small is rest =
    let size : length no_responders + 0 + 0 + length subject ≡ length no_responders + length subject = omega arith in
    headed_stands sid subject None no_responders [] rest unanswered_block small is tt (omega arith) unanswered_back
    ∙ ap (λ n. got (unanswered_by sid subject n) (length (said_text (unanswered sid subject)))) size

stands : (said : Said) → IsTellable said → Stands said
stands (hello server_id max_payload) is = hello_stands server_id max_payload is.0 is.1
stands (told sid subject respond headers payload) is = told_stands sid subject respond headers payload is.0 is.1 is.2 is.3 is.4
stands (unanswered sid subject) is = unanswered_stands sid subject is.0 is.1
stands (refused why) is = refused_stands why
stands pong is = pong_stands

-- ---- all texts

abbrev Read : List Said → Type 0
Read all = (operations (said_texts all) ≡ map as_read all) × (behind (length all) (said_texts all) ≡ [])

next : (said : Said) (all : List Said) → IsTellable said → Read all → Read (said ∷ all)
next said all is rest =
    let text = said_text said in
    let more = said_texts all in
    let first = stands said is more in
    let left : drop (length text) (text ++ more) ≡ more = drop-append_seam text more in (
      operations_next (text ++ more) (as_read said) (length text) first
          ∙ ap (λ bytes. as_read said ∷ operations bytes) left ∙ ap (λ ops. as_read said ∷ ops) rest.0,
      ap (λ found. behind (length all) (past found (text ++ more))) first ∙ ap (behind (length all)) left ∙ rest.1,
    )

pub read_back : (all : List Said) → AreTellable all → Read all
read_back [] are = (refl, refl)
read_back (said ∷ all) are = next said all are.0 (read_back all are.1)
