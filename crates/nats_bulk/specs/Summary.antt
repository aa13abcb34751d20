-- What a transcript comes to, in eight numbers.
use Rattle.std.specs.Prelude.{ℕ, Bool, true, false, List, ◌++◌, length, is_some, codes, decimal, sum_by, count_by}
use Rattle.nats_history.specs.declared.call.CallReply.{CallReply}
use Rattle.nats_history.specs.declared.call.CallReply.TheVariants as replies
use Rattle.nats_history.specs.declared.call.TakeReply.{TakeReply}
use Rattle.nats_history.specs.declared.call.TakeReply.TheVariants as takes
use Rattle.nats_history.specs.declared.transcript.LinkRow.{LinkRow}
use Rattle.nats_history.specs.declared.transcript.SubRow.{SubRow}
use Rattle.nats_history.specs.declared.transcript.Transcript.{Transcript}
use Rattle.nats_bulk.specs.declared.sums.Figures.{Figures}

-- a call that was accepted, with a number or without
abbrev pub is_accepted : CallReply → Bool
is_accepted replies.Accepted = true
is_accepted (replies.Numbered n) = true
is_accepted reply = false

abbrev pub was_accepted : ℕ × CallReply → Bool
was_accepted (place, reply) = is_accepted reply

abbrev pub is_message : TakeReply → Bool
is_message (takes.Message m) = true
is_message reply = false

abbrev pub got_message : ℕ × TakeReply → Bool
got_message (place, reply) = is_message reply

-- ---- the numbers

abbrev pub calls_of : Transcript → ℕ
calls_of t = count_by was_accepted t.calls

abbrev pub puts_of : Transcript → ℕ
puts_of t = sum_by (λ (row : SubRow). length row.puts) t.subs

abbrev pub takes_of : Transcript → ℕ
takes_of t = sum_by (λ (row : SubRow). count_by got_message row.takes) t.subs

abbrev pub drops_of : Transcript → ℕ
drops_of t = sum_by (λ (row : SubRow). length row.drops) t.subs

abbrev pub settled_of : Transcript → ℕ
settled_of t = count_by is_some t.tickets

abbrev pub taken_of : Transcript → ℕ
taken_of t = sum_by (λ (row : LinkRow). length row.taken) t.links

abbrev pub left_of : Transcript → ℕ
left_of t = sum_by (λ (row : LinkRow). length row.left) t.links

abbrev pub figures_of : ℕ → Transcript → Figures
figures_of turns t = record {
  turns = turns;
  calls = calls_of t;
  puts = puts_of t;
  takes = takes_of t;
  drops = drops_of t;
  settled = settled_of t;
  taken = taken_of t;
  left = left_of t;
}

-- ---- the text

abbrev pub line : List ℕ → ℕ → List ℕ
line word n = word ++ (codes " " ++ (decimal n ++ codes "\n"))

abbrev pub first_lines : Figures → List ℕ
first_lines f =
    ((line (codes "turns") f.turns ++ line (codes "calls") f.calls) ++ line (codes "puts") f.puts)
    ++ line (codes "takes") f.takes

abbrev pub figures_text : Figures → List ℕ
figures_text f =
    (((first_lines f ++ line (codes "drops") f.drops) ++ line (codes "settled") f.settled)
    ++ line (codes "out") f.taken)
    ++ line (codes "left") f.left

-- the eight lines of so many turns with this transcript
abbrev pub summary : ℕ → Transcript → List ℕ
summary turns t = figures_text (figures_of turns t)
