-- What is printed of a script of a broker.
use Rattle.std.specs.Prelude.{ℕ, List, ◌++◌, codes}
use Rattle.std.specs.Fmt.{decimal}
use Rattle.nats_spelling.specs.Lines.{lf, placed, numbered}
use Rattle.nats_spelling.specs.Spelling.{spelled}
use Rattle.nats_broker.specs.Peers.{word_text}
use Rattle.nats_broker.specs.declared.rows.PeerRow.{PeerRow}

-- peer p: how it stands, and what it was told
abbrev pub peer_lines : ℕ → PeerRow → List ℕ
peer_lines p row = placed (codes "peer") p (word_text row.word) ++ codes "text " ++ spelled row.text ++ lf

-- the peers in the order of their numbers, from 1
abbrev pub printed : List PeerRow → List ℕ
printed rows = numbered peer_lines 1 rows

-- the first line that cannot be read is line k
abbrev pub unreadable_text : ℕ → List ℕ
unreadable_text k = codes "script line " ++ decimal k ++ lf

-- the first turn that may not come where it stands is turn k
abbrev pub out_of_turn_text : ℕ → List ℕ
out_of_turn_text k = codes "turn " ++ decimal k ++ codes " out of turn" ++ lf
