-- What the bytes of a server say: the grammar of server operations, read from the front of one whole text.
use Rattle.std.specs.Prelude.{ℕ, zero, suc, ◌+◌, ◌^◌, Bool, true, false, not, ◌&&◌, ◌==◌, nat_lt, nat_eq, List, [], ◌∷◌, length, take, drop, map, reverse, filter, Option, Some, None, if◌then◌else◌, codes}
use Rattle.std.specs.Char.{is_whitespace, to_ascii_lowercase}
use Rattle.std.specs.Option.{option_map}
use Rattle.std.specs.List.{starts_with, slice_split}
use Rattle.std.specs.Str.{is_utf8, all_ascii_digits, chars, encode_utf8_all, bytes_eq}
use Rattle.std.specs.Str.Parse.{digits_value, without_leading_plus}
use Rattle.nats_names.specs.declared.server_error.ServerError.{ServerError}
use Rattle.nats_names.specs.declared.server_error.ServerError.TheVariants.{AuthorizationViolation, Other}
use Rattle.nats_info.specs.Fields.{info_at}
use Rattle.nats_block.specs.declared.block.Block.{Block}
use Rattle.nats_block.specs.Block.{block_of}
use Rattle.nats_message.specs.declared.message.Message.{Message}
pub use Rattle.nats_message.specs.Content.{Operation, message, info_op, error_op, ok_op, ping_op, pong_op, op_view, peeked_view}
use Rattle.nats_lines.specs.declared.word.Word.{Word}
use Rattle.nats_lines.specs.declared.word.Word.TheVariants as word

-- what stands at the front of a text: less than an operation, one operation in its first n bytes, or a fault that
-- takes the first n bytes
pub data Front : Type 0 where
  unfinished : Front
  got : Operation → ℕ → Front
  fault : ℕ → Front

-- less than an operation stands there
abbrev pub is_unfinished : Front → Bool
is_unfinished unfinished = true
is_unfinished (got operation n) = false
is_unfinished (fault n) = false

-- a text cut at its first CR LF, which is in neither part
pub record Cut : Type 0 where
  pub line : List ℕ
  pub rest : List ℕ

abbrev pub onto_line : ℕ → Cut → Cut
onto_line byte cut = record { line = byte ∷ cut.line; rest = cut.rest }

abbrev pub cut_line : List ℕ → Option Cut
cut_line [] = None
cut_line (a ∷ []) = None
cut_line (a ∷ b ∷ more) =
    if a == 13 && b == 10 then Some (record { line = []; rest = more })
    else option_map (onto_line a) (cut_line (b ∷ more))

-- what a line begins with, tested in this order
abbrev pub word_of : List ℕ → Word
word_of line =
    if starts_with nat_eq line (codes "+OK") then word.Ok else
    (if starts_with nat_eq line (codes "PING") then word.Ping else
    (if starts_with nat_eq line (codes "PONG") then word.Pong else
    (if starts_with nat_eq line (codes "-ERR") then word.Error else
    (if starts_with nat_eq line (codes "INFO ") then word.Info else
    (if starts_with nat_eq line (codes "MSG ") then word.Message else
    (if starts_with nat_eq line (codes "HMSG ") then word.HeaderMessage else word.Other))))))

-- a number: a plus or none, then one or more digits, below 2^64
abbrev pub number_of : List ℕ → Option ℕ
number_of text =
    let digits = without_leading_plus text in
    if not (length digits == 0) && all_ascii_digits digits && nat_lt (digits_value 10 digits) (2 ^ 64) then Some
    (digits_value 10 digits) else None

-- ---- the line of a message

-- what the line of a message says
pub record Head : Type 0 where
  pub subject : List ℕ
  pub sid : ℕ
  pub reply : Option (List ℕ)
  -- the bytes that follow the line, but the last two
  pub count : ℕ

-- the pieces of a text between spaces, without the empty ones
abbrev pub pieces_of : List ℕ → List (List ℕ)
pieces_of text = filter (λ piece. not (length piece == 0)) (slice_split (λ b. b == 32) text)

abbrev pub head_with : List ℕ → Option (List ℕ) → Option ℕ → Option ℕ → Option Head
head_with subject reply (Some sid) (Some count) =
    Some (record { subject = subject; sid = sid; reply = reply; count = count })
head_with subject reply (Some sid) None = None
head_with subject reply None count = None

-- three pieces are subject, number, count; four are subject, number, reply, count
abbrev pub head_of_pieces : List (List ℕ) → Option Head
head_of_pieces (subject ∷ sid ∷ count ∷ []) = head_with subject None (number_of sid) (number_of count)
head_of_pieces (subject ∷ sid ∷ reply ∷ count ∷ []) = head_with subject (Some reply) (number_of sid) (number_of count)
head_of_pieces pieces = None

abbrev pub head_of : List ℕ → Option Head
head_of text = if is_utf8 text then head_of_pieces (pieces_of text) else None

-- the length of a text that may be absent
abbrev pub length_or_0 : Option (List ℕ) → ℕ
length_or_0 None = 0
length_or_0 (Some text) = length text

-- the message of a line and the payload after it; its length counts the bytes that follow the line, the reply and
-- the subject
abbrev pub message_of : Head → List ℕ → Message
message_of head payload = record {
  subject = head.subject;
  reply = head.reply;
  payload = payload;
  headers = None;
  status = None;
  description = None;
  length = head.count + length_or_0 head.reply + length head.subject;
}

-- ---- the line of a message with headers

-- what it says: its head, which counts the header block with the payload, and the length of the block
pub record HeaderHead : Type 0 where
  pub head : Head
  pub block_len : ℕ

-- the words of a text between white space, that of Unicode
abbrev pub words_of : List ℕ → List (List ℕ)
words_of text = map encode_utf8_all (filter (λ word. not (length word == 0)) (slice_split is_whitespace (chars text)))

-- a total below the length of the block is none
abbrev pub with_block_len : Option ℕ → Option Head → Option HeaderHead
with_block_len (Some block_len) (Some head) =
    if nat_lt head.count block_len then None else Some (record { head = head; block_len = block_len })
with_block_len (Some block_len) None = None
with_block_len None head = None

-- four words are subject, number, length of the block, total; five have the reply third
abbrev pub header_head_of_words : List (List ℕ) → Option HeaderHead
header_head_of_words (subject ∷ sid ∷ block_len ∷ total ∷ []) =
    with_block_len (number_of block_len) (head_with subject None (number_of sid) (number_of total))
header_head_of_words (subject ∷ sid ∷ reply ∷ block_len ∷ total ∷ []) =
    with_block_len (number_of block_len) (head_with subject (Some reply) (number_of sid) (number_of total))
header_head_of_words words = None

abbrev pub header_head_of : List ℕ → Option HeaderHead
header_head_of text = if is_utf8 text then header_head_of_words (words_of text) else None

-- a message with what its header block says
abbrev pub with_block : Message → Block → Message
with_block m block = record m {
  headers = Some block.headers;
  status = block.status;
  description = block.description;
}

-- ---- the line of an error

abbrev pub without_first_quotes : List ℕ → List ℕ
without_first_quotes [] = []
without_first_quotes (b ∷ text) = if b == 39 then without_first_quotes text else b ∷ text

-- a text without the quotes at its start and at its end
abbrev pub without_quotes : List ℕ → List ℕ
without_quotes text = reverse (without_first_quotes (reverse (without_first_quotes text)))

-- the error of a text, which is compared whatever the case of its ASCII letters, and else kept as it is
abbrev pub error_by : List ℕ → ServerError
error_by text =
    if bytes_eq (map to_ascii_lowercase text) (codes "authorization violation") then AuthorizationViolation
    else Other text

abbrev pub error_of_text : List ℕ → Option ServerError
error_of_text text = if is_utf8 text then Some (error_by (without_quotes text)) else None

-- the error that a line tells behind its first five bytes; a line of four bytes tells none
abbrev pub error_of : List ℕ → Option ServerError
error_of line = if nat_lt (length line) 5 then None else error_of_text (drop 5 line)

-- ---- what stands at the front

-- the text of an operation that is there whole: read, or still to be read into memory, an INFO or the block of a
-- message
pub data OpText : Type 0 where
  plain : Operation → OpText
  info_text : List ℕ → OpText
  headed : ℕ → Message → List ℕ → OpText

-- what stands at the front of a text before that is read: less than an operation, the text of one in the first n
-- bytes, or a fault that takes the first n bytes
pub data Sight : Type 0 where
  less : Sight
  whole : OpText → ℕ → Sight
  bad : ℕ → Sight

-- a message whose line takes `end` bytes: the line, CR LF, the payload, and two bytes that aren't tested
abbrev pub message_or_bad : ℕ → List ℕ → Option Head → Sight
message_or_bad end rest None = bad 0
message_or_bad end rest (Some head) =
    if nat_lt (length rest) (head.count + 2) then less else
    whole (plain (message head.sid (message_of head (take head.count rest)))) (end + head.count + 4)

-- the text of a message whose body is a header block and the payload
abbrev pub headed_text : HeaderHead → List ℕ → OpText
headed_text h body = headed h.head.sid (message_of h.head (drop h.block_len body)) (take h.block_len body)

-- the same with a header block before the payload
abbrev pub headed_or_bad : ℕ → List ℕ → Option HeaderHead → Sight
headed_or_bad end rest None = bad 0
headed_or_bad end rest (Some h) =
    if nat_lt (length rest) (h.head.count + 2) then less else
    whole (headed_text h (take h.head.count rest)) (end + h.head.count + 4)

abbrev pub error_or_bad : ℕ → Option ServerError → Sight
error_or_bad n None = bad 0
error_or_bad n (Some error) = whole (plain (error_op error)) n

-- a line by its word: `+OK`, `PING` and `PONG` take the line and its CR LF, whatever follows the word in the line
abbrev pub sight_of_word : Word → List ℕ → List ℕ → Sight
sight_of_word word.Message line rest = message_or_bad (length line) rest (head_of (drop 4 line))
sight_of_word word.HeaderMessage line rest = headed_or_bad (length line) rest (header_head_of (drop 5 line))
sight_of_word word.Info line rest = whole (info_text (drop 4 line)) (length line + 2)
sight_of_word word.Error line rest = error_or_bad (length line + 2) (error_of line)
sight_of_word word.Ok line rest = whole (plain ok_op) (length line + 2)
sight_of_word word.Ping line rest = whole (plain ping_op) (length line + 2)
sight_of_word word.Pong line rest = whole (plain pong_op) (length line + 2)
sight_of_word word.Other line rest = bad (length line + 2)

abbrev pub sight_of_cut : Option Cut → Sight
sight_of_cut None = less
sight_of_cut (Some cut) = sight_of_word (word_of cut.line) cut.line cut.rest

unfoldable pub sight : List ℕ → Sight
sight bytes = sight_of_cut (cut_line bytes)

-- the operation of a text, where it is one
abbrev pub op_of : OpText → Option Operation
op_of (plain operation) = Some operation
op_of (info_text text) = option_map info_op (info_at text)
op_of (headed sid m block) = option_map (λ b. message sid (with_block m b)) (block_of block)

-- how many of its n bytes a text takes that is no operation: a message goes whole, an INFO stays
abbrev pub lost_at : OpText → ℕ → ℕ
lost_at (headed sid m block) n = n
lost_at (info_text text) n = 0
lost_at (plain operation) n = 0

abbrev pub got_or_fault : ℕ → ℕ → Option Operation → Front
got_or_fault n lost (Some operation) = got operation n
got_or_fault n lost None = fault lost

abbrev pub front_of_sight : Sight → Front
front_of_sight less = unfinished
front_of_sight (bad n) = fault n
front_of_sight (whole text n) = got_or_fault n (lost_at text n) (op_of text)

-- what stands at the front of a text
unfoldable pub front : List ℕ → Front
front bytes = front_of_sight (sight bytes)

-- how many bytes what stands at the front takes
abbrev pub size_of : Front → ℕ
size_of unfinished = 0
size_of (got operation n) = n
size_of (fault n) = n

-- whether memory is taken to read what stands at the front: the text of an operation is there whole. Where that
-- turns out to be none, it is an INFO or a header block
abbrev pub is_whole : Sight → Bool
is_whole (whole text n) = true
is_whole less = false
is_whole (bad n) = false

abbrev pub takes_memory : List ℕ → Bool
takes_memory bytes = is_whole (sight bytes)

-- the bytes of a text without what stands at its front, where that takes bytes
abbrev pub without_front : Front → List ℕ → List ℕ
without_front unfinished bytes = bytes
without_front (got operation n) bytes = drop n bytes
without_front (fault n) bytes = drop n bytes

-- the bytes of a text without the operation at its front, all of them where none is there
abbrev pub past : Front → List ℕ → List ℕ
past (got operation n) bytes = drop n bytes
past unfinished bytes = bytes
past (fault n) bytes = bytes

-- the bytes of a text behind its first `count` operations, or behind all of them where it has fewer
abbrev pub behind : ℕ → List ℕ → List ℕ
behind zero bytes = bytes
behind (suc count) bytes = behind count (past (front bytes) bytes)

abbrev pub onto_operations : Front → List Operation → List Operation
onto_operations (got operation n) operations = operation ∷ operations
onto_operations unfinished operations = []
onto_operations (fault n) operations = []

abbrev pub operations_within : ℕ → List ℕ → List Operation
operations_within zero bytes = []
operations_within (suc most) bytes = onto_operations (front bytes) (operations_within most (past (front bytes) bytes))

-- the operations of a text, from its front up to the first place where it has none
abbrev pub operations : List ℕ → List Operation
operations bytes = operations_within (length bytes) bytes
