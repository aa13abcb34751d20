-- What the bytes of a client say: the grammar of client commands, read from the front of one whole text. A command is a
-- line, and behind the line of a publish a body whose bytes the line counts.
use Rattle.std.specs.Prelude.{ℕ, zero, suc, ◌+◌, Bool, true, false, ◌&&◌, nat_lt, nat_eq, List, [], ◌∷◌, length, take, drop, Option, Some, None, option_map, if◌then◌else◌}
use Rattle.std.specs.List.{starts_with, list_all}
use Rattle.std.specs.Str.{is_utf8}
use Rattle.nats_names.specs.Names.{is_publishable}
use Rattle.nats_lines.specs.Operations.{Cut, cut_line}
use Rattle.nats_commands.specs.Commands.{crlf}
use Rattle.nats_message.specs.declared.op.ClientOp.{ClientOp}
use Rattle.nats_message.specs.declared.op.ClientOp.TheVariants.{Subscribe, Unsubscribe, Publish, Ping, Pong}
use Rattle.nats_client_text.specs.Pieces.{pieces_of, plain_number, word_of}
use Rattle.nats_client_text.specs.Blocks.{block_of}
use Rattle.nats_client_text.specs.declared.pieces.Word.{Word}
use Rattle.nats_client_text.specs.declared.pieces.Word.TheVariants as word
use Rattle.nats_client_text.specs.declared.read.ClientFront.{ClientFront}
use Rattle.nats_client_text.specs.declared.read.ClientFront.TheVariants.{Got, Unfinished, Bad}
use Rattle.nats_client_text.specs.declared.read.ClientEnd.TheVariants as end
use Rattle.nats_client_text.specs.declared.read.ClientRead.{ClientRead}

-- the text of a command that is there whole: a command, or a publish by its subject, reply, block and payload, whose
-- block is still to be read
pub data OpText : Type 0 where
  plain : ClientOp → OpText
  published : List ℕ → Option (List ℕ) → Option (List ℕ) → List ℕ → OpText

-- what the line of a publish says
pub record Publishes : Type 0 where
  pub subject : List ℕ
  pub respond : Option (List ℕ)
  -- the bytes of the block, with headers
  pub block_len : Option ℕ
  -- the bytes of the body: the payload behind the block
  pub count : ℕ

-- what a line says: a command of its own, or one with a body
pub data Line : Type 0 where
  alone : OpText → Line
  counted : Publishes → Line

-- ---- the line, by its word

-- no piece behind the word
abbrev pub bare : OpText → List (List ℕ) → Option Line
bare text [] = Some (alone text)
bare text (piece ∷ pieces) = None

abbrev pub limited : Option ℕ → Option ℕ → Option Line
limited (Some sid) (Some max) = Some (alone (plain (Unsubscribe sid (Some max))))
limited (Some sid) None = None
limited None max = None

-- a number, or a number and how many messages are still to come
abbrev pub unsubscription : List (List ℕ) → Option Line
unsubscription (sid ∷ []) = option_map (λ sid. alone (plain (Unsubscribe sid None))) (plain_number sid)
unsubscription (sid ∷ max ∷ []) = limited (plain_number sid) (plain_number max)
unsubscription pieces = None

abbrev pub subscribed : List ℕ → Option (List ℕ) → Option ℕ → Option Line
subscribed subject queue_group sid = option_map (λ sid. alone (plain (Subscribe sid subject queue_group))) sid

-- a subject, perhaps a queue group, and a number
abbrev pub subscription : List (List ℕ) → Option Line
subscription (subject ∷ sid ∷ []) = subscribed subject None (plain_number sid)
subscription (subject ∷ queue_group ∷ sid ∷ []) = subscribed subject (Some queue_group) (plain_number sid)
subscription pieces = None

abbrev pub with_payload : List ℕ → Option (List ℕ) → Option ℕ → Option Line
with_payload subject respond count =
    option_map (λ n. counted (record { subject = subject; respond = respond; block_len = None; count = n })) count

-- a subject, perhaps a reply, and the length of the payload
abbrev pub publication : List (List ℕ) → Option Line
publication (subject ∷ count ∷ []) = with_payload subject None (plain_number count)
publication (subject ∷ respond ∷ count ∷ []) = with_payload subject (Some respond) (plain_number count)
publication pieces = None

-- a total below the length of the block is none
abbrev pub with_block : List ℕ → Option (List ℕ) → Option ℕ → Option ℕ → Option Line
with_block subject respond (Some block_len) (Some total) =
    if nat_lt total block_len then None else
    Some (counted (record { subject = subject; respond = respond; block_len = Some block_len; count = total }))
with_block subject respond (Some block_len) None = None
with_block subject respond None total = None

-- a subject, perhaps a reply, the length of the block, and that of block and payload together
abbrev pub header_publication : List (List ℕ) → Option Line
header_publication (subject ∷ block_len ∷ total ∷ []) =
    with_block subject None (plain_number block_len) (plain_number total)
header_publication (subject ∷ respond ∷ block_len ∷ total ∷ []) =
    with_block subject (Some respond) (plain_number block_len) (plain_number total)
header_publication pieces = None

abbrev pub line_of_word : Word → List (List ℕ) → Option Line
line_of_word word.Ping pieces = bare (plain Ping) pieces
line_of_word word.Pong pieces = bare (plain Pong) pieces
line_of_word word.Unsubscribe pieces = unsubscription pieces
line_of_word word.Subscribe pieces = subscription pieces
line_of_word word.Publish pieces = publication pieces
line_of_word word.HeaderPublish pieces = header_publication pieces
line_of_word word.Other pieces = None

abbrev pub line_of_pieces : List (List ℕ) → Option Line
line_of_pieces [] = None
line_of_pieces (first ∷ pieces) = line_of_word (word_of first) pieces

-- a line is UTF-8, and each of its pieces has a byte and no white space
abbrev pub line_of : List ℕ → Option Line
line_of line =
    if is_utf8 line && list_all is_publishable (pieces_of line) then line_of_pieces (pieces_of line) else None

-- ---- what stands at the front

-- a counted body: not there whole, there without the CR LF that belongs behind it, or there
pub data Body : Type 0 where
  short : Body
  torn : Body
  body : List ℕ → Body

abbrev pub body_of : ℕ → List ℕ → Body
body_of count rest =
    if nat_lt (length rest) (count + 2) then short else
    (if starts_with nat_eq (drop count rest) crlf then body (take count rest) else torn)

-- what stands at the front of a text before a block is read: less than a command, the text of one in the first n bytes,
-- or what is none
pub data Sight : Type 0 where
  less : Sight
  whole : OpText → ℕ → Sight
  wrong : Sight

-- a body is the block, where the line counts one, and the payload
abbrev pub text_of : List ℕ → Option (List ℕ) → Option ℕ → List ℕ → OpText
text_of subject respond None bytes = published subject respond None bytes
text_of subject respond (Some block_len) bytes =
    published subject respond (Some (take block_len bytes)) (drop block_len bytes)

abbrev pub sight_of_body : Publishes → ℕ → Body → Sight
sight_of_body p end short = less
sight_of_body p end torn = wrong
sight_of_body p end (body bytes) = whole (text_of p.subject p.respond p.block_len bytes) (end + p.count + 2)

-- a line that takes `end` bytes with its CR LF, and the bytes behind it
abbrev pub sight_of_line : ℕ → List ℕ → Option Line → Sight
sight_of_line end rest None = wrong
sight_of_line end rest (Some (alone text)) = whole text end
sight_of_line end rest (Some (counted p)) = sight_of_body p end (body_of p.count rest)

abbrev pub sight_of_cut : Option Cut → Sight
sight_of_cut None = less
sight_of_cut (Some cut) = sight_of_line (length cut.line + 2) cut.rest (line_of cut.line)

unfoldable pub sight : List ℕ → Sight
sight text = sight_of_cut (cut_line text)

-- the command of a text, where its block is one
abbrev pub op_of : OpText → Option ClientOp
op_of (plain op) = Some op
op_of (published subject respond None payload) = Some (Publish subject payload respond None)
op_of (published subject respond (Some block) payload) =
    option_map (λ headers. Publish subject payload respond (Some headers)) (block_of block)

abbrev pub got_or_bad : ℕ → Option ClientOp → ClientFront
got_or_bad n (Some op) = Got op n
got_or_bad n None = Bad

abbrev pub front_of_sight : Sight → ClientFront
front_of_sight less = Unfinished
front_of_sight wrong = Bad
front_of_sight (whole text n) = got_or_bad n (op_of text)

-- what stands at the front of a text
unfoldable pub front : List ℕ → ClientFront
front text = front_of_sight (sight text)

-- whether memory is taken for a command: it has a name or a payload
abbrev pub has_parts : OpText → Bool
has_parts (plain (Subscribe sid subject queue_group)) = true
has_parts (plain op) = false
has_parts (published subject respond block payload) = true

-- whether memory is taken to read what stands at the front
abbrev pub memory_taken : Sight → Bool
memory_taken less = false
memory_taken wrong = false
memory_taken (whole text n) = has_parts text

abbrev pub takes_memory : List ℕ → Bool
takes_memory text = memory_taken (sight text)

-- whether the text of a command stands whole at the front
abbrev pub is_whole : Sight → Bool
is_whole less = false
is_whole wrong = false
is_whole (whole text n) = true

abbrev pub begins_whole : List ℕ → Bool
begins_whole text = is_whole (sight text)

-- ---- a whole text

-- the bytes of a text without the command at its front
abbrev pub past : ClientFront → List ℕ → List ℕ
past (Got op n) text = drop n text
past Unfinished text = text
past Bad text = text

abbrev pub onto_read : ClientFront → ClientRead → ClientRead
onto_read (Got op n) later = record { ops = op ∷ later.ops; «end» = later.«end» }
onto_read Unfinished later = record { ops = []; «end» = end.Unfinished }
onto_read Bad later = record { ops = []; «end» = end.Bad }

-- a text of at most `most` bytes
abbrev pub read_within : ℕ → List ℕ → ClientRead
read_within most [] = record { ops = []; «end» = end.Whole }
read_within zero (byte ∷ bytes) = record { ops = []; «end» = end.Unfinished }
read_within (suc most) (byte ∷ bytes) =
    onto_read (front (byte ∷ bytes)) (read_within most (past (front (byte ∷ bytes)) (byte ∷ bytes)))

-- the commands of a text from its front on, and how it ends: behind the last of them, in one that isn't there whole, or
-- in what is none
abbrev pub read_of : List ℕ → ClientRead
read_of text = read_within (length text) text
