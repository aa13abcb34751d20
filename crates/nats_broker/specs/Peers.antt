-- Peers: how they stand and what they say of themselves.
use Rattle.std.specs.Prelude.{ℕ, Bool, List, [], ◌++◌, drop, Option, Some, None, codes}
use Rattle.nats_outboxes.specs.Outboxes.{grown}
use Rattle.nats_routing.specs.Texts.{crlf}
use Rattle.nats_broker_text.specs.declared.connect.Wishes.{Wishes}
use Rattle.nats_broker.specs.declared.peer.PeerWord.{PeerWord}
use Rattle.nats_broker.specs.declared.peer.PeerWord.TheVariants as word
use Rattle.nats_broker.specs.declared.peer.Peer.{Peer}

-- what a word prints
abbrev pub word_text : PeerWord → List ℕ
word_text word.Up = codes "up"
word_text word.Left = codes "left"
word_text word.Bad = codes "bad"
word_text word.Size = codes "size"

-- what a peer is told as it ends
abbrev pub end_text : PeerWord → List ℕ
end_text word.Bad = codes "-ERR 'Unknown Protocol Operation'" ++ crlf
end_text word.Size = codes "-ERR 'Maximum Payload Violation'" ++ crlf
end_text word.Up = []
end_text word.Left = []

abbrev pub ended : PeerWord → Peer → Peer
ended w peer = record peer { word = w; unread = [] }

-- what isn't said stays as it was
abbrev pub wished : Option Bool → Bool → Bool
wished None kept = kept
wished (Some given) kept = given

abbrev pub with_wish : Wishes → Peer → Peer
with_wish wishes peer = record peer {
  echo = wished wishes.echo peer.echo;
  no_responders = wished wishes.no_responders peer.no_responders;
}

abbrev pub past : ℕ → Peer → Peer
past n peer = record peer { unread = drop n peer.unread }

abbrev pub fed_by : List ℕ → Peer → Peer
fed_by bytes peer = record peer { unread = grown bytes peer.unread }

-- the peer, where it is up
abbrev pub up_by : PeerWord → Peer → Option Peer
up_by word.Up peer = Some peer
up_by word.Left peer = None
up_by word.Bad peer = None
up_by word.Size peer = None

abbrev pub up_peer : Option Peer → Option Peer
up_peer None = None
up_peer (Some peer) = up_by peer.word peer
