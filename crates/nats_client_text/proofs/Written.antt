-- The texts of commands are read back.
use Rattle.std.proofs.Common.{◌≡◌, ℕ, ◌+◌, ◌<◌, ◌^◌, Bool, true, false, List, [], ◌∷◌, ◌++◌, length, take, drop, map, Option, Some, None, refl, ap, sym, ◌∙◌, arith, lit<, append_assoc, length-append, option_map}
use Rattle.std.specs.Prelude.{nat_lt, nat_eq, if◌then◌else◌, codes}
use Rattle.std.specs.List.{starts_with}
use Rattle.std.specs.Fmt.{decimal}
use Rattle.std.proofs.Math.Seq.{take-append_seam, drop-append_seam}
use Rattle.std.proofs.lemmas.Bool.{le-ltb}
use Rattle.nats_header.specs.Headers.{Headers}
use Rattle.nats_header.specs.Block.{block_text}
use Rattle.nats_client_text.proofs.Fields.{block_back}
use Rattle.nats_commands.specs.Commands.{crlf, command_text, command_texts, publication_text}
use Rattle.nats_message.specs.declared.op.ClientOp.{ClientOp}
use Rattle.nats_message.specs.declared.op.ClientOp.TheVariants.{Subscribe, Unsubscribe, Publish, Ping, Pong, Connect}
use Rattle.nats_client_text.specs.Pieces.{plain_number, word_of}
use Rattle.nats_client_text.specs.Grammar.{OpText, got_or_bad, with_block, Publishes, alone, counted, plain, published, short, torn, body, body_of, whole, line_of_word, sight_of_line, sight_of_body, sight, front, onto_read, read_of}
use Rattle.nats_client_text.specs.Blocks.{block_of}
use Rattle.nats_client_text.specs.Law.{IsName, IsNameOrNone, IsSendable, AreSendable, as_read}
use Rattle.nats_client_text.specs.declared.read.ClientFront.TheVariants.{Got}
use Rattle.nats_client_text.specs.declared.read.ClientEnd.TheVariants as end
use Rattle.nats_client_text.proofs.Fronts.{sight_by_cut, front_by_sight}
use Rattle.nats_client_text.proofs.Reading.{read_got}
use Rattle.nats_client_text.proofs.Spaced.{spaced, AreNames, line_spaced, cut_clean, spaced_clean, small_utf8, number_name, plain_number_decimal}

line_seen : (first : List ℕ) (pieces : List (List ℕ)) (rest : List ℕ) → IsName first → AreNames pieces
    → sight (spaced first pieces ++ 13 ∷ 10 ∷ rest) ≡ sight_of_line (length (spaced first pieces) + 2) rest (line_of_word (word_of first) pieces)
line_seen first pieces rest is are =
    let line = spaced first pieces in
    sight_by_cut (line ++ 13 ∷ 10 ∷ rest) (Some (record { line = line; rest = rest })) (sym (cut_clean line rest (spaced_clean first pieces is are)))
    ∙ ap (sight_of_line (length line + 2) rest) (line_spaced first pieces is are)

-- a text of one line
alone_front : (first : List ℕ) (pieces : List (List ℕ)) (rest : List ℕ) (op : ClientOp) → IsName first → AreNames pieces
    → line_of_word (word_of first) pieces ≡ Some (alone (plain op))
    → front (spaced first pieces ++ 13 ∷ 10 ∷ rest) ≡ Got op (length (spaced first pieces) + 2)
alone_front first pieces rest op is are says =
    let n = length (spaced first pieces) + 2 in
    front_by_sight (spaced first pieces ++ 13 ∷ 10 ∷ rest) (whole (plain op) n)
    (sym (line_seen first pieces rest is are ∙ ap (sight_of_line n rest) says))

written_alone : (text first : List ℕ) (pieces : List (List ℕ)) (rest : List ℕ) (op : ClientOp) → text ≡ spaced first pieces ++ 13 ∷ 10 ∷ []
    → IsName first → AreNames pieces → line_of_word (word_of first) pieces ≡ Some (alone (plain op)) → front (text ++ rest) ≡ Got op (length text)
written_alone text first pieces rest op same is are says =
    let line = spaced first pieces in
    let size : length text ≡ length line + 2 = ap length same ∙ length-append line (13 ∷ 10 ∷ []) in
    let grown : text ++ rest ≡ line ++ 13 ∷ 10 ∷ rest = ap (λ t. t ++ rest) same ∙ append_assoc line (13 ∷ 10 ∷ []) rest in
    rw (grown, size) (alone_front first pieces rest op is are says)

body_step : (few right : Bool) (bytes payload : List ℕ) → few ≡ false → right ≡ true → bytes ≡ payload
    → (if few then short else (if right then body bytes else torn)) ≡ body payload
body_step true right bytes payload p q same = cc
body_step false false bytes payload p q same = cc
body_step false true bytes payload p q same = ap body same

body_whole : (payload rest : List ℕ) → body_of (length payload) (payload ++ 13 ∷ 10 ∷ rest) ≡ body payload
body_whole payload rest =
    let behind = 13 ∷ 10 ∷ rest in
    let enough : nat_lt (length (payload ++ behind)) (length payload + 2) ≡ false =
    le-ltb (length (payload ++ behind)) (length payload + 2) (omega (arith, length-append payload behind)) in
    let ends : starts_with nat_eq (drop (length payload) (payload ++ behind)) crlf ≡ true = rw (drop-append_seam payload behind) refl in
    body_step (nat_lt (length (payload ++ behind)) (length payload + 2)) (starts_with nat_eq (drop (length payload) (payload ++ behind)) crlf) (take (length payload) (payload ++ behind)) payload enough ends (take-append_seam payload behind)

-- a line, a payload and CR LF
body_front : (first : List ℕ) (pieces : List (List ℕ)) (subject : List ℕ) (respond : Option (List ℕ)) (payload rest : List ℕ) → IsName first → AreNames pieces
    → line_of_word (word_of first) pieces ≡ Some (counted (record { subject = subject; respond = respond; block_len = None; count = length payload }))
    → front (spaced first pieces ++ 13 ∷ 10 ∷ (payload ++ 13 ∷ 10 ∷ rest)) ≡ Got (Publish subject payload respond None) (length (spaced first pieces) + 2 + length payload + 2)
body_front first pieces subject respond payload rest is are says =
    let n = length (spaced first pieces) + 2 in
    let more = payload ++ 13 ∷ 10 ∷ rest in
    let p : Publishes = record { subject = subject; respond = respond; block_len = None; count = length payload } in
    front_by_sight (spaced first pieces ++ 13 ∷ 10 ∷ more) (whole (published subject respond None payload) (n + length payload + 2))
    (sym (line_seen first pieces more is are ∙ ap (sight_of_line n more) says ∙ ap (sight_of_body p n) (body_whole payload rest)))

written_body : (text first : List ℕ) (pieces : List (List ℕ)) (subject : List ℕ) (respond : Option (List ℕ)) (payload rest : List ℕ)
    → text ≡ spaced first pieces ++ 13 ∷ 10 ∷ (payload ++ 13 ∷ 10 ∷ []) → IsName first → AreNames pieces
    → line_of_word (word_of first) pieces ≡ Some (counted (record { subject = subject; respond = respond; block_len = None; count = length payload }))
    → front (text ++ rest) ≡ Got (Publish subject payload respond None) (length text)
written_body text first pieces subject respond payload rest same is are says =
    let line = spaced first pieces in
    let size : length text ≡ length line + 2 + length payload + 2 =
    ap length same ∙ length-append line (13 ∷ 10 ∷ (payload ++ 13 ∷ 10 ∷ [])) ∙ omega (arith, length-append payload (13 ∷ 10 ∷ [])) in
    let grown : text ++ rest ≡ line ++ 13 ∷ 10 ∷ (payload ++ 13 ∷ 10 ∷ rest) =
    ap (λ t. t ++ rest) same ∙ append_assoc line (13 ∷ 10 ∷ (payload ++ 13 ∷ 10 ∷ [])) rest
    ∙ ap (λ t. line ++ 13 ∷ 10 ∷ t) (append_assoc payload (13 ∷ 10 ∷ []) rest) in
    rw (grown, size) (body_front first pieces subject respond payload rest is are says)

ping_name : IsName (codes "PING")
ping_name = (small_utf8 (codes "PING") (lit< tt, (lit< tt, (lit< tt, (lit< tt, tt)))), refl)

pong_name : IsName (codes "PONG")
pong_name = (small_utf8 (codes "PONG") (lit< tt, (lit< tt, (lit< tt, (lit< tt, tt)))), refl)

unsub_name : IsName (codes "UNSUB")
unsub_name = (small_utf8 (codes "UNSUB") (lit< tt, (lit< tt, (lit< tt, (lit< tt, (lit< tt, tt))))), refl)

sub_name : IsName (codes "SUB")
sub_name = (small_utf8 (codes "SUB") (lit< tt, (lit< tt, (lit< tt, tt))), refl)

pub_name : IsName (codes "PUB")
pub_name = (small_utf8 (codes "PUB") (lit< tt, (lit< tt, (lit< tt, tt))), refl)

group_parts : (v s a b c e : List ℕ) → (v ++ s) ++ a ++ s ++ (b ++ s) ++ c ++ e ≡ (v ++ (s ++ (a ++ (s ++ (b ++ (s ++ c)))))) ++ e
group_parts v s a b c e = simp append_assoc

reply_parts : (v s a b c e p : List ℕ) → (v ++ s) ++ a ++ s ++ (b ++ s) ++ c ++ e ++ p ++ e ≡ (v ++ (s ++ (a ++ (s ++ (b ++ (s ++ c)))))) ++ (e ++ (p ++ e))
reply_parts v s a b c e p = simp append_assoc

sub_text : (subject number : List ℕ) → codes "SUB " ++ subject ++ codes " " ++ [] ++ number ++ crlf ≡ spaced (codes "SUB") (subject ∷ number ∷ []) ++ 13 ∷ 10 ∷ []
sub_text subject number = simp append_assoc

sub_group_text : (subject group number : List ℕ) → codes "SUB " ++ subject ++ codes " " ++ (group ++ codes " ") ++ number ++ crlf ≡ spaced (codes "SUB") (subject ∷ group ∷ number ∷ []) ++ 13 ∷ 10 ∷ []
sub_group_text subject group number = group_parts (codes "SUB") (codes " ") subject group number crlf

unsub_text : (number : List ℕ) → codes "UNSUB " ++ number ++ [] ++ crlf ≡ spaced (codes "UNSUB") (number ∷ []) ++ 13 ∷ 10 ∷ []
unsub_text number = simp append_assoc

unsub_max_text : (number max : List ℕ) → codes "UNSUB " ++ number ++ (codes " " ++ max) ++ crlf ≡ spaced (codes "UNSUB") (number ∷ max ∷ []) ++ 13 ∷ 10 ∷ []
unsub_max_text number max = simp append_assoc

pub_text : (subject number payload : List ℕ)
    → codes "PUB " ++ subject ++ codes " " ++ [] ++ number ++ crlf ++ payload ++ crlf ≡ spaced (codes "PUB") (subject ∷ number ∷ []) ++ 13 ∷ 10 ∷ (payload ++ 13 ∷ 10 ∷ [])
pub_text subject number payload = simp append_assoc

pub_reply_text : (subject reply number payload : List ℕ)
    → codes "PUB " ++ subject ++ codes " " ++ (reply ++ codes " ") ++ number ++ crlf ++ payload ++ crlf ≡ spaced (codes "PUB") (subject ∷ reply ∷ number ∷ []) ++ 13 ∷ 10 ∷ (payload ++ 13 ∷ 10 ∷ [])
pub_reply_text subject reply number payload = reply_parts (codes "PUB") (codes " ") subject reply number crlf payload

subscribe_front : (sid : ℕ) (subject : List ℕ) (group : Option (List ℕ)) (rest : List ℕ) → sid < 2 ^ 64 → IsName subject → IsNameOrNone group
    → front (command_text (Subscribe sid subject group) ++ rest) ≡ Got (Subscribe sid subject group) (length (command_text (Subscribe sid subject group)))
subscribe_front sid subject None rest small name other =
    written_alone (command_text (Subscribe sid subject None)) (codes "SUB") (subject ∷ decimal sid ∷ []) rest (Subscribe sid subject None)
    (sub_text subject (decimal sid)) sub_name (name, (number_name sid small, tt)) (rw (plain_number_decimal sid small) refl)
subscribe_front sid subject (Some group) rest small name other =
    written_alone (command_text (Subscribe sid subject (Some group))) (codes "SUB") (subject ∷ group ∷ decimal sid ∷ []) rest (Subscribe sid subject (Some group))
    (sub_group_text subject group (decimal sid)) sub_name (name, (other, (number_name sid small, tt))) (rw (plain_number_decimal sid small) refl)

publish_front : (subject : List ℕ) (respond : Option (List ℕ)) (payload rest : List ℕ) → IsName subject → IsNameOrNone respond → length payload < 2 ^ 64
    → front (publication_text subject respond None payload ++ rest) ≡ Got (Publish subject payload respond None) (length (publication_text subject respond None payload))
publish_front subject None payload rest name other small =
    written_body (publication_text subject None None payload) (codes "PUB") (subject ∷ decimal (length payload) ∷ []) subject None payload rest
    (pub_text subject (decimal (length payload)) payload) pub_name (name, (number_name (length payload) small, tt)) (rw (plain_number_decimal (length payload) small) refl)
publish_front subject (Some reply) payload rest name other small =
    written_body (publication_text subject (Some reply) None payload) (codes "PUB") (subject ∷ reply ∷ decimal (length payload) ∷ []) subject (Some reply) payload rest
    (pub_reply_text subject reply (decimal (length payload)) payload) pub_name (name, (other, (number_name (length payload) small, tt))) (rw (plain_number_decimal (length payload) small) refl)

-- a line, a block, a payload and CR LF
headed_front : (first : List ℕ) (pieces : List (List ℕ)) (subject : List ℕ) (respond : Option (List ℕ)) (block payload rest : List ℕ) (headers : Headers)
    → IsName first → AreNames pieces → block_of block ≡ Some headers
    → line_of_word (word_of first) pieces ≡ Some (counted (record { subject = subject; respond = respond; block_len = Some (length block); count = length block + length payload }))
    → front (spaced first pieces ++ 13 ∷ 10 ∷ ((block ++ payload) ++ 13 ∷ 10 ∷ rest)) ≡ Got (Publish subject payload respond (Some headers)) (length (spaced first pieces) + 2 + (length block + length payload) + 2)
headed_front first pieces subject respond block payload rest headers is are reads says =
    let n = length (spaced first pieces) + 2 in
    let more = (block ++ payload) ++ 13 ∷ 10 ∷ rest in
    let p : Publishes = record { subject = subject; respond = respond; block_len = Some (length block); count = length block + length payload } in
    let all : body_of (length block + length payload) more ≡ body (block ++ payload) =
    ap (λ count. body_of count more) (sym (length-append block payload)) ∙ body_whole (block ++ payload) rest in
    let parts : published subject respond (Some (take (length block) (block ++ payload))) (drop (length block) (block ++ payload)) ≡ published subject respond (Some block) payload =
    rw (take-append_seam block payload, drop-append_seam block payload) refl in
    let size = n + (length block + length payload) + 2 in
    front_by_sight (spaced first pieces ++ 13 ∷ 10 ∷ more) (whole (published subject respond (Some block) payload) size)
    (sym (line_seen first pieces more is are ∙ ap (sight_of_line n more) says ∙ ap (sight_of_body p n) all ∙ ap (λ (text : OpText). whole text size) parts))
    ∙ ap (λ found. got_or_bad size (option_map (λ headers. Publish subject payload respond (Some headers)) found)) reads

written_headed : (text first : List ℕ) (pieces : List (List ℕ)) (subject : List ℕ) (respond : Option (List ℕ)) (block payload rest : List ℕ) (headers : Headers)
    → text ≡ spaced first pieces ++ 13 ∷ 10 ∷ ((block ++ payload) ++ 13 ∷ 10 ∷ []) → IsName first → AreNames pieces → block_of block ≡ Some headers
    → line_of_word (word_of first) pieces ≡ Some (counted (record { subject = subject; respond = respond; block_len = Some (length block); count = length block + length payload }))
    → front (text ++ rest) ≡ Got (Publish subject payload respond (Some headers)) (length text)
written_headed text first pieces subject respond block payload rest headers same is are reads says =
    let line = spaced first pieces in
    let all = block ++ payload in
    let size : length text ≡ length line + 2 + (length block + length payload) + 2 =
    ap length same ∙ length-append line (13 ∷ 10 ∷ (all ++ 13 ∷ 10 ∷ [])) ∙ omega (arith, length-append all (13 ∷ 10 ∷ []), length-append block payload) in
    let grown : text ++ rest ≡ line ++ 13 ∷ 10 ∷ (all ++ 13 ∷ 10 ∷ rest) =
    ap (λ t. t ++ rest) same ∙ append_assoc line (13 ∷ 10 ∷ (all ++ 13 ∷ 10 ∷ [])) rest
    ∙ ap (λ t. line ++ 13 ∷ 10 ∷ t) (append_assoc all (13 ∷ 10 ∷ []) rest) in
    rw (grown, size) (headed_front first pieces subject respond block payload rest headers is are reads says)

hpub_name : IsName (codes "HPUB")
hpub_name = (small_utf8 (codes "HPUB") (lit< tt, (lit< tt, (lit< tt, (lit< tt, tt)))), refl)

hpub_parts : (v s a h t e b p : List ℕ) → (v ++ s) ++ a ++ s ++ [] ++ h ++ s ++ t ++ e ++ b ++ p ++ e ≡ (v ++ (s ++ (a ++ (s ++ (h ++ (s ++ t)))))) ++ (e ++ ((b ++ p) ++ e))
hpub_parts v s a h t e b p = simp append_assoc

hpub_reply_parts : (v s a r h t e b p : List ℕ) → (v ++ s) ++ a ++ s ++ (r ++ s) ++ h ++ s ++ t ++ e ++ b ++ p ++ e ≡ (v ++ (s ++ (a ++ (s ++ (r ++ (s ++ (h ++ (s ++ t)))))))) ++ (e ++ ((b ++ p) ++ e))
hpub_reply_parts v s a r h t e b p = simp append_assoc

-- the total is no less than the block's length
block_says : (subject : List ℕ) (respond : Option (List ℕ)) (block_len count : ℕ) → block_len + count < 2 ^ 64
    → with_block subject respond (plain_number (decimal block_len)) (plain_number (decimal (block_len + count)))
    ≡ Some (counted (record { subject = subject; respond = respond; block_len = Some block_len; count = block_len + count }))
block_says subject respond block_len count small =
    let enough : nat_lt (block_len + count) block_len ≡ false = le-ltb (block_len + count) block_len (omega arith) in
    rw (plain_number_decimal block_len (omega (arith, small)), plain_number_decimal (block_len + count) small, enough) refl

publish_headed : (subject : List ℕ) (respond : Option (List ℕ)) (block payload rest : List ℕ) (headers : Headers) → IsName subject → IsNameOrNone respond
    → block_of block ≡ Some headers → length block + length payload < 2 ^ 64
    → front (publication_text subject respond (Some block) payload ++ rest) ≡ Got (Publish subject payload respond (Some headers)) (length (publication_text subject respond (Some block) payload))
publish_headed subject None block payload rest headers name other reads small =
    let length_name = number_name (length block) (omega (arith, small)) in
    let total_name = number_name (length block + length payload) small in
    written_headed (publication_text subject None (Some block) payload) (codes "HPUB") (subject ∷ decimal (length block) ∷ decimal (length block + length payload) ∷ []) subject None block payload rest headers
    (hpub_parts (codes "HPUB") (codes " ") subject (decimal (length block)) (decimal (length block + length payload)) crlf block payload)
    hpub_name (name, (length_name, (total_name, tt))) reads (block_says subject None (length block) (length payload) small)
publish_headed subject (Some reply) block payload rest headers name other reads small =
    let length_name = number_name (length block) (omega (arith, small)) in
    let total_name = number_name (length block + length payload) small in
    written_headed (publication_text subject (Some reply) (Some block) payload) (codes "HPUB") (subject ∷ reply ∷ decimal (length block) ∷ decimal (length block + length payload) ∷ []) subject (Some reply) block payload rest headers
    (hpub_reply_parts (codes "HPUB") (codes " ") subject reply (decimal (length block)) (decimal (length block + length payload)) crlf block payload)
    hpub_name (name, (other, (length_name, (total_name, tt)))) reads (block_says subject (Some reply) (length block) (length payload) small)

op_front : (op : ClientOp) (rest : List ℕ) → IsSendable op → front (command_text op ++ rest) ≡ Got (as_read op) (length (command_text op))
op_front (Subscribe sid subject group) rest is = subscribe_front sid subject group rest is.0 is.1 is.2
op_front (Unsubscribe sid None) rest is =
    written_alone (command_text (Unsubscribe sid None)) (codes "UNSUB") (decimal sid ∷ []) rest (Unsubscribe sid None)
    (unsub_text (decimal sid)) unsub_name (number_name sid is.0, tt) (rw (plain_number_decimal sid is.0) refl)
op_front (Unsubscribe sid (Some max)) rest is =
    written_alone (command_text (Unsubscribe sid (Some max))) (codes "UNSUB") (decimal sid ∷ decimal max ∷ []) rest (Unsubscribe sid (Some max))
    (unsub_max_text (decimal sid) (decimal max)) unsub_name (number_name sid is.0, (number_name max is.1, tt))
    (rw (plain_number_decimal sid is.0, plain_number_decimal max is.1) refl)
op_front (Publish subject payload respond None) rest is = publish_front subject respond payload rest is.0 is.1 is.3
op_front (Publish subject payload respond (Some [])) rest is = publish_front subject respond payload rest is.0 is.1 is.3
op_front (Publish subject payload respond (Some (field ∷ fields))) rest is =
    publish_headed subject respond (block_text (field ∷ fields)) payload rest (field ∷ fields) is.0 is.1 (block_back (field ∷ fields) is.2) is.3
op_front Ping rest is = written_alone (codes "PING" ++ crlf) (codes "PING") [] rest Ping refl ping_name tt refl
op_front Pong rest is = written_alone (codes "PONG" ++ crlf) (codes "PONG") [] rest Pong refl pong_name tt refl
op_front (Connect info) rest is = absurd is

pub read_back : (ops : List ClientOp) → AreSendable ops → read_of (command_texts ops) ≡ record { ops = map as_read ops; «end» = end.Whole }
read_back [] are = refl
read_back (op ∷ ops) are =
    let text = command_text op in
    let rest = command_texts ops in
    read_got (text ++ rest) (as_read op) (length text) (op_front op rest are.0)
    ∙ ap (λ (left : List ℕ). onto_read (Got (as_read op) (length text)) (read_of left)) (drop-append_seam text rest)
    ∙ ap (onto_read (Got (as_read op) (length text))) (read_back ops are.1)
