-- A message without headers as nearly all come: words of visible ASCII with one space between them.
use Rattle.std.specs.Prelude.{◌≡◌, ℕ, ◌+◌, ◌<◌, ◌≤◌, Bool, not, ◌&&◌, nat_le, List, ◌∷◌, ◌++◌, length, All, Option, Some, None, IfSome}
use Rattle.std.specs.Borrow.{Bor}
use Rattle.std.specs.Option.{option_map}
use Rattle.nats_plain.specs.declared.plain.PlainLine.{PlainLine}
use Rattle.nats_plain.specs.declared.plain.PlainText.{PlainText}
use Rattle.nats_lines.specs.Operations.{Head, number_of}

-- a byte that ends a word
abbrev pub is_odd : ℕ → Bool
is_odd b = not (nat_le 33 b && nat_le b 126)

-- a byte of a word
abbrev pub IsVisible : ℕ → Type 0
IsVisible b = (33 ≤ b) × (b ≤ 126)

abbrev pub IsWord : List ℕ → Type 0
IsWord word = (0 < length word) × All IsVisible word

abbrev pub onto_count : Option (Bor (List ℕ)) → List ℕ → List ℕ
onto_count None count = count
onto_count (Some reply) count = reply.now ++ 32 ∷ count

-- what such a line says behind its first word
abbrev pub words_text : List ℕ → List ℕ → Option (Bor (List ℕ)) → List ℕ → List ℕ
words_text subject sid reply count = subject ++ 32 ∷ (sid ++ 32 ∷ onto_count reply count)

-- such a line: `MSG`, then subject, number, the reply where there is one, count
abbrev pub line_text : PlainLine → List ℕ
line_text l = 77 ∷ 83 ∷ 71 ∷ 32 ∷ words_text l.subject.now l.sid.now l.reply l.count.now

abbrev pub AreWords : PlainLine → Type 0
AreWords l = IsWord l.subject.now × IsWord l.sid.now × IsWord l.count.now × IfSome l.reply (λ reply. IsWord reply.now)

-- what it says, by its numbers
abbrev pub plain_head : PlainText → Head
plain_head t = record {
  subject = t.line.subject.now;
  sid = t.sid;
  reply = option_map (λ text. text.now) t.line.reply;
  count = t.count;
}

-- some bytes are such a line and what follows it, the numbers are those of its words, and the bytes that they count
-- are there, with two before them and two behind
pub record Parts (t : PlainText) (bytes : List ℕ) : Type 0 where
  pub cut : bytes ≡ line_text t.line ++ t.line.rest.now
  pub words : AreWords t.line
  pub sid : number_of t.line.sid.now ≡ Some t.sid
  pub count : number_of t.line.count.now ≡ Some t.count
  pub fits : t.count + 4 ≤ length t.line.rest.now
