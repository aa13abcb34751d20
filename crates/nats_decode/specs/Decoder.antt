-- What the decoder's values say, in the grammar's words.
use Rattle.std.specs.Prelude.{◌≡◌, ℕ, ◌+◌, ◌-◌, ◌≤◌, List, length, take, drop, None}
use Rattle.std.specs.Option.{option_map}
use Rattle.nats_message.specs.declared.message.Message.{Message}
use Rattle.nats_decode.specs.declared.decode.Sight.{Sight}
use Rattle.nats_decode.specs.declared.decode.Sight.TheVariants as sight
use Rattle.nats_decode.specs.declared.decode.OpText.{OpText}
use Rattle.nats_decode.specs.declared.decode.OpText.TheVariants as op
use Rattle.nats_decode.specs.declared.decode.MessageText.{MessageText}
use Rattle.nats_decode.specs.declared.decode.Line.{Line}
use Rattle.nats_decode.specs.declared.front.Front.{Front}
use Rattle.nats_decode.specs.declared.front.Front.TheVariants as front
use Rattle.nats_lines.specs.Operations as grammar
use Rattle.nats_lines.specs.Operations.{peeked_view, unfinished, got, fault, message, error_op, ok_op, ping_op, pong_op, plain, info_text, headed, less, whole, bad, Cut}
use Rattle.nats_lines.specs.Heads.{error_view}

abbrev pub message_view : MessageText → Message
message_view m = record {
  subject = m.subject.now;
  reply = option_map (λ text. text.now) m.reply;
  payload = m.payload.now;
  headers = None;
  status = None;
  description = None;
  length = m.length;
}

abbrev pub op_text_view : OpText → grammar.OpText
op_text_view op.Ok = plain ok_op
op_text_view op.Ping = plain ping_op
op_text_view op.Pong = plain pong_op
op_text_view (op.Info text) = info_text text.now
op_text_view (op.Error e) = plain (error_op (error_view e))
op_text_view (op.Message sid m) = plain (message sid (message_view m))
op_text_view (op.HeaderMessage sid m block) = headed sid (message_view m) block.now

abbrev pub sight_view : Sight → grammar.Sight
sight_view sight.Unfinished = less
sight_view (sight.Whole text n) = whole (op_text_view text) n
sight_view (sight.Fault n) = bad n

abbrev pub front_view : Front → grammar.Front
front_view front.Unfinished = unfinished
front_view (front.Got op n) = got (peeked_view op) n
front_view (front.Fault n) = fault n

-- how many bytes it takes
abbrev pub taken_by : Front → ℕ
taken_by front.Unfinished = 0
taken_by (front.Got op n) = n
taken_by (front.Fault n) = n

abbrev pub line_view : Line → Cut
line_view line = record { line = line.text.now; rest = line.rest.now }

-- a payload ends two bytes before the first `len` bytes of a text end, within them
pub record EndsAt (bytes : List ℕ) (len : ℕ) (payload : List ℕ) : Type 0 where
  pub fits : length payload + 2 ≤ len
  pub within : len ≤ length bytes
  pub same : take (length payload) (drop (len - 2 - length payload) bytes) ≡ payload
