-- What the reader's values say, in the grammar's words.
use Rattle.std.specs.Prelude.{◌≡◌, ℕ, ◌+◌, ◌<◌, ◌≤◌, List, [], ◌∷◌, length, Option, Some, None, option_map}
use Rattle.std.specs.Borrow.{Bor}
use Rattle.nats_lines.specs.Operations.{Cut}
use Rattle.nats_message.specs.declared.op.ClientOp.TheVariants as op
use Rattle.nats_client_text.specs.Pieces.{pieces_of}
use Rattle.nats_client_text.specs.Blocks.{lines_of}
use Rattle.nats_client_text.specs.Grammar as grammar
use Rattle.nats_client_text.specs.Grammar.{plain, published, alone, counted, less, whole, wrong, short, torn, body}
use Rattle.nats_client_text.specs.declared.read.ClientFront.{ClientFront}
use Rattle.nats_client_text.specs.declared.read.ClientFront.TheVariants.{Got, Unfinished, Bad}
use Rattle.nats_client_text.specs.declared.cut.CutText.{CutText}
use Rattle.nats_client_text.specs.declared.pieces.Piece.{Piece}
use Rattle.nats_client_text.specs.declared.line.OpText.{OpText}
use Rattle.nats_client_text.specs.declared.line.OpText.TheVariants as text
use Rattle.nats_client_text.specs.declared.line.Publishes.{Publishes}
use Rattle.nats_client_text.specs.declared.line.Line.{Line}
use Rattle.nats_client_text.specs.declared.line.Line.TheVariants as line
use Rattle.nats_client_text.specs.declared.sight.Body.{Body}
use Rattle.nats_client_text.specs.declared.sight.Body.TheVariants as bodies
use Rattle.nats_client_text.specs.declared.sight.Sight.{Sight}
use Rattle.nats_client_text.specs.declared.sight.Sight.TheVariants as sight

abbrev pub now_of : Option (Bor (List ℕ)) → Option (List ℕ)
now_of lent = option_map (λ text. text.now) lent

abbrev pub cut_view : CutText → Cut
cut_view cut = record { line = cut.line.now; rest = cut.rest.now }

-- the pieces of what is left of a line
abbrev pub pieces_left : Option (Bor (List ℕ)) → List (List ℕ)
pieces_left None = []
pieces_left (Some text) = pieces_of text.now

-- the pieces of a line that is cut behind its first piece, or has none left
abbrev pub pieces_from : Option Piece → List (List ℕ)
pieces_from None = []
pieces_from (Some piece) = piece.text.now ∷ pieces_left piece.left

-- the lines of a text that is cut behind its first line, or has no CR LF
abbrev pub lines_from : Option CutText → List ℕ → List (List ℕ)
lines_from None text = text ∷ []
lines_from (Some cut) text = cut.line.now ∷ lines_of cut.rest.now

abbrev pub op_text_view : OpText → grammar.OpText
op_text_view text.Ping = plain op.Ping
op_text_view text.Pong = plain op.Pong
op_text_view (text.Unsubscribe sid max) = plain (op.Unsubscribe sid max)
op_text_view (text.Subscribe sid subject queue_group) = plain (op.Subscribe sid subject.now (now_of queue_group))
op_text_view (text.Publish subject respond block payload) =
    published subject.now (now_of respond) (now_of block) payload.now

abbrev pub publishes_view : Publishes → grammar.Publishes
publishes_view p = record {
  subject = p.subject.now;
  respond = now_of p.respond;
  block_len = p.block_len;
  count = p.count;
}

abbrev pub line_view : Line → grammar.Line
line_view (line.Alone text) = alone (op_text_view text)
line_view (line.Counted p) = counted (publishes_view p)

abbrev pub body_view : Body → grammar.Body
body_view bodies.Short = short
body_view bodies.Torn = torn
body_view (bodies.Whole bytes) = body bytes.now

abbrev pub sight_view : Sight → grammar.Sight
sight_view sight.Unfinished = less
sight_view (sight.Whole text n) = whole (op_text_view text) n
sight_view sight.Bad = wrong

-- the block of a publish lies within its body
abbrev pub BlockFits : Option ℕ → ℕ → Type 0
BlockFits None count = Unit {0}
BlockFits (Some block_len) count = block_len ≤ count

abbrev pub BlockWithin : Line → Type 0
BlockWithin (line.Alone text) = Unit {0}
BlockWithin (line.Counted p) = BlockFits p.block_len p.count

-- a body that is there has the bytes that were counted, and CR LF lies behind it
abbrev pub BodyCounts : Body → ℕ → ℕ → Type 0
BodyCounts bodies.Short count room = Unit {0}
BodyCounts bodies.Torn count room = Unit {0}
BodyCounts (bodies.Whole bytes) count room = (length bytes.now ≡ count) × (count + 2 ≤ room)

-- how many bytes it takes
abbrev pub Takes : ClientFront → ℕ → Type 0
Takes (Got op n) most = (0 < n) × (n ≤ most)
Takes Unfinished most = Unit {0}
Takes Bad most = Unit {0}
