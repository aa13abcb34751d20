-- What the values that are read of a line say, in the grammar's words.
use Rattle.std.specs.Prelude.{ℕ, List, [], ◌∷◌, Option, Some, None}
use Rattle.std.specs.Borrow.{Bor}
use Rattle.std.specs.Option.{option_map}
use Rattle.nats_names.specs.declared.server_error.ServerError.{ServerError}
use Rattle.nats_names.specs.declared.server_error.ServerError.TheVariants as server_error
use Rattle.nats_lines.specs.declared.word.Word.{Word}
use Rattle.nats_lines.specs.declared.word.Word.TheVariants as word
use Rattle.nats_lines.specs.declared.error_line.ErrorText.{ErrorText}
use Rattle.nats_lines.specs.declared.error_line.ErrorText.TheVariants as error
use Rattle.nats_lines.specs.declared.head.Piece.{Piece}
use Rattle.nats_lines.specs.declared.head.Head.{Head}
use Rattle.nats_lines.specs.declared.head.HeaderHead.{HeaderHead}
use Rattle.nats_lines.specs.Operations as grammar
use Rattle.nats_lines.specs.Operations.{pieces_of, words_of}

abbrev pub error_view : ErrorText → ServerError
error_view error.AuthorizationViolation = server_error.AuthorizationViolation
error_view (error.Other text) = server_error.Other text.now

-- the pieces of a text that is cut behind its first piece, or has none
abbrev pub pieces_from : Option Piece → List (List ℕ)
pieces_from None = []
pieces_from (Some piece) = piece.text.now ∷ pieces_of piece.rest.now

-- the words of a text whose first word, if it has one, is taken off what is left
abbrev pub words_from : Option (Bor (List ℕ)) → List ℕ → List (List ℕ)
words_from None left = []
words_from (Some word) left = word.now ∷ words_of left

abbrev pub head_view : Head → grammar.Head
head_view head = record {
  subject = head.subject.now;
  sid = head.sid;
  reply = option_map (λ text. text.now) head.reply;
  count = head.count;
}

abbrev pub header_head_view : HeaderHead → grammar.HeaderHead
header_head_view h = record { head = head_view h.head; block_len = h.block_len }

-- the least length of a line that begins with the word
abbrev pub word_len : Word → ℕ
word_len word.Message = 4
word_len word.Info = 5
word_len word.HeaderMessage = 5
word_len word = 0
