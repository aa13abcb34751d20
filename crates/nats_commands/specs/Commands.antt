-- The texts of client operations.
use Rattle.std.specs.Prelude.{ℕ, ◌+◌, List, [], ◌∷◌, ◌++◌, length, Option, Some, None, codes}
use Rattle.std.specs.Fmt.{decimal}
use Rattle.std.specs.Borrow.{Bor}
use Rattle.std.specs.List.{flat_map}
use Rattle.nats_connect.specs.Connect.{connect_text}
use Rattle.nats_header.specs.Headers.{Headers}
use Rattle.nats_header.specs.Block.{block_text}
pub use Rattle.nats_message.specs.Content.{crlf}
use Rattle.nats_message.specs.declared.op.ClientOp.{ClientOp}
use Rattle.nats_message.specs.declared.op.ClientOp.TheVariants.{Subscribe, Unsubscribe, Publish, Ping, Pong, Connect}

abbrev pub word_and_space : Option (List ℕ) → List ℕ
word_and_space None = []
word_and_space (Some word) = word ++ codes " "

-- `SUB s sid`, or `SUB s g sid` in a queue group
abbrev pub subscription_text : ℕ → List ℕ → Option (List ℕ) → List ℕ
subscription_text sid subject queue_group =
    codes "SUB " ++ subject ++ codes " " ++ word_and_space queue_group ++ decimal sid ++ crlf

abbrev pub space_and_number : Option ℕ → List ℕ
space_and_number None = []
space_and_number (Some n) = codes " " ++ decimal n

-- `UNSUB sid`, or `UNSUB sid max` where max messages are still to come
abbrev pub unsubscription_text : ℕ → Option ℕ → List ℕ
unsubscription_text sid max = codes "UNSUB " ++ decimal sid ++ space_and_number max ++ crlf

-- the block that is sent for some headers: none where no name is there
abbrev pub sent_block : Option Headers → Option (List ℕ)
sent_block None = None
sent_block (Some []) = None
sent_block (Some (field ∷ fields)) = Some (block_text (field ∷ fields))

-- `PUB s n` or `PUB s r n` and n bytes of payload; with a block of h bytes `HPUB s h t` or `HPUB s r h t`, the
-- block and the payload, which have t bytes together
abbrev pub publication_text : List ℕ → Option (List ℕ) → Option (List ℕ) → List ℕ → List ℕ
publication_text subject respond None payload =
    codes "PUB " ++ subject ++ codes " " ++ word_and_space respond ++ decimal (length payload) ++ crlf ++ payload
    ++ crlf
publication_text subject respond (Some block) payload =
    codes "HPUB " ++ subject ++ codes " " ++ word_and_space respond ++ decimal (length block) ++ codes " "
    ++ decimal (length block + length payload) ++ crlf ++ block ++ payload ++ crlf

-- what the client writes for an operation
abbrev pub command_text : ClientOp → List ℕ
command_text (Subscribe sid subject queue_group) = subscription_text sid subject queue_group
command_text (Unsubscribe sid max) = unsubscription_text sid max
command_text (Publish subject payload respond headers) = publication_text subject respond (sent_block headers) payload
command_text Ping = codes "PING" ++ crlf
command_text Pong = codes "PONG" ++ crlf
command_text (Connect info) = connect_text info

-- what the client writes for some operations, in order
abbrev pub command_texts : List ClientOp → List ℕ
command_texts ops = flat_map command_text ops

-- the bytes of some parts, one after another
abbrev pub joined : List (Bor (List ℕ)) → List ℕ
joined parts = flat_map (λ part. part.now) parts
