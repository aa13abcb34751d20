-- What waits is what was said, turn by turn.
use Rattle.std.proofs.Common.{◌≡◌, ℕ, zero, suc, ◌+◌, ◌^◌, ◌<◌, ◌≤◌, Bool, true, false, not, ◌||◌, ◌==◌, List, [], ◌∷◌, ◌++◌, map, filter, Option, Some, None, refl, ap, sym, ◌∙◌, subst, arith, append_assoc, append-nil, Ordering, Less, Equal, Greater}
use Rattle.std.specs.Prelude.{nat_lt, fold, option_map, slice_get, codes, if◌then◌else◌}
use Rattle.std.specs.Ordering.{nat_cmp, match_ordering}
use Rattle.std.specs.Option.{unwrap_or}
use Rattle.std.specs.Cmp.Lexicographic.{slice_cmp}
use Rattle.std.specs.List.{list_any, find}
use Rattle.std.proofs.lemmas.Bool.{ltb-false, eq-eqb}
use Rattle.nats_names.specs.Names.{is_token, is_valid}
use Rattle.nats_client_text.specs.Law.{IsCounted}
use Rattle.nats_interests.specs.declared.interest.Interest.{Interest}
use Rattle.nats_interests.specs.Interests.{is_of, is_open, altered, subscribed, new_interest, most_of, limit_to, count_one, counted as count_of}
use Rattle.nats_picking.specs.declared.picking.Target.{Target}
use Rattle.nats_picking.specs.Hearing.{hears, heard, is_plain, has_less, answers}
use Rattle.nats_picking.specs.Picking.{target_of, group_name, better, onto_pick, pick, picks, targets_by}
use Rattle.nats_outboxes.specs.Outboxes.{item_of, at_index, at_number, grown, said, all_said}
use Rattle.nats_routing.specs.declared.publication.Publication.{Publication}
use Rattle.nats_routing.specs.Router.{RouterSeen, letters_of, counted_all, sent_to, no_answer, told_unheard, unheard, published_to, published, said_to, closed_by}
use Rattle.nats_routing.specs.Texts.{message_text}
use Rattle.nats_broker_text.specs.declared.command.Command.{Command}
use Rattle.nats_broker_text.specs.declared.command.Command.TheVariants.{Subscribe, Unsubscribe, Publish, Ping, Pong, Connect}
use Rattle.nats_broker_text.specs.declared.command.PeerFront.{PeerFront}
use Rattle.nats_broker_text.specs.declared.command.PeerFront.TheVariants.{Unfinished, Bad, Got}
use Rattle.nats_broker_text.specs.Commands.{peer_front}
use Rattle.nats_broker.specs.declared.info.BrokerInfo.{BrokerInfo}
use Rattle.nats_broker.specs.declared.turn.BrokerTurn.{BrokerTurn}
use Rattle.nats_broker.specs.declared.turn.BrokerTurn.TheVariants.{Join, Feed, Leave}
use Rattle.nats_broker.specs.declared.peer.Peer.{Peer}
use Rattle.nats_broker.specs.declared.peer.PeerWord.{PeerWord}
use Rattle.nats_broker.specs.declared.peer.PeerWord.TheVariants as word
use Rattle.nats_broker.specs.Info.{info_text}
use Rattle.nats_broker.specs.Peers.{end_text}
use Rattle.nats_broker.specs.Playing.{BrokerSeen, peer_ended, told as told_line, publish_by, command_done, taken_from, due_front, due_of, due, fed_peer, unread_len, settled_by, new_broker, own, after_turn, played}
use Rattle.nats_server_text.specs.Law.{IsWord, IsWordOrNone, IsTellable, AreTellable}
use Rattle.nats_server_text.specs.Said.{Said, hello, told, unanswered, refused, pong, invalid_subject, unknown_operation, payload_violation, said_text, said_texts, counted}
use Rattle.nats_broker_laws.specs.Order.{front_command, command_at, next_for, done_by, done_in, done_for}
use Rattle.nats_server_laws.specs.Waiting.{IsMessage, IsFit, ReadsFit, WaitsAsSaid, is_among, IsAsked, AreAsked, asked_numbers, ToldAsAsked}

-- ---- texts

tellable_more : (all : List Said) (one : Said) → AreTellable all → IsTellable one → AreTellable (all ++ one ∷ [])
tellable_more [] one are is = (is, tt)
tellable_more (first ∷ all) one are is = (are.0, tellable_more all one are.1 is)

texts_more : (all : List Said) (one : Said) → said_texts (all ++ one ∷ []) ≡ said_texts all ++ said_text one
texts_more [] one = append-nil (said_text one)
texts_more (first ∷ all) one =
    ap (λ text. said_text first ++ text) (texts_more all one) ∙ sym (append_assoc (said_text first) (said_texts all) (said_text one))

-- a number under which a peer asked for messages
abbrev IsKnown : (ℕ → List ℕ) → ℕ → ℕ → Type 0
IsKnown asked p sid = (sid < 2 ^ 64) × (is_among sid (asked p) ≡ true)

are_asked_more : (numbers : List ℕ) (all : List Said) (one : Said) → AreAsked numbers all → IsAsked numbers one → AreAsked numbers (all ++ one ∷ [])
are_asked_more numbers [] one are is = (is, tt)
are_asked_more numbers (first ∷ all) one are is = (are.0, are_asked_more numbers all one are.1 is)

-- `asked p` are the numbers under which peer p asks for messages
module _ (asked : ℕ → List ℕ) where
  abbrev IsSaidTo : ℕ → List ℕ → Type 0
  IsSaidTo p text = (all : List Said) × AreTellable all × AreAsked (asked p) all × (text ≡ said_texts all)

  abbrev IsTold : ℕ → Said → Type 0
  IsTold p one = IsTellable one × IsAsked (asked p) one

  said_more : (p : ℕ) (text : List ℕ) (one : Said) → IsSaidTo p text → IsTold p one → IsSaidTo p (text ++ said_text one)
  said_more p text one said is = (
    said.0 ++ one ∷ [],
    tellable_more said.0 one said.1 is.0,
    are_asked_more (asked p) said.0 one said.2 is.1,
    ap (λ bytes. bytes ++ said_text one) said.3 ∙ sym (texts_more said.0 one),
  )

  -- the texts of the peers from a number on
  abbrev AreSaid : ℕ → List (List ℕ) → Type 0
  AreSaid p [] = Unit {0}
  AreSaid p (out ∷ outs) = IsSaidTo p out × AreSaid (suc p) outs

  -- one peer is told one more thing
  index_said : (k p q : ℕ) (one : Said) (outs : List (List ℕ)) → k + p ≡ q → IsTold q one → AreSaid p outs → AreSaid p (at_index k (grown (said_text one)) outs)
  index_said k p q one [] at is are = tt
  index_said zero p q one (out ∷ outs) at is are =
      let same : p ≡ q = omega (arith, at) in
      (said_more p out one are.0 (subst (λ r. IsTold r one) (sym same) is), are.1)
  index_said (suc k) p q one (out ∷ outs) at is are =
      (are.0, index_said k (suc p) q one outs (let same : k + suc p ≡ q = omega (arith, at) in same) is are.1)

  number_said : (p : ℕ) (one : Said) (outs : List (List ℕ)) → IsTold p one → AreSaid 1 outs → AreSaid 1 (at_number p (grown (said_text one)) outs)
  number_said zero one outs is are = are
  number_said (suc k) one outs is are = index_said k 1 (suc k) one outs (omega arith) is are

  index_nothing : (k p : ℕ) (outs : List (List ℕ)) → AreSaid p outs → AreSaid p (at_index k (grown []) outs)
  index_nothing k p [] are = tt
  index_nothing zero p (out ∷ outs) are = (subst (IsSaidTo p) (sym (append-nil out)) are.0, are.1)
  index_nothing (suc k) p (out ∷ outs) are = (are.0, index_nothing k (suc p) outs are.1)

  number_nothing : (p : ℕ) (outs : List (List ℕ)) → AreSaid 1 outs → AreSaid 1 (at_number p (grown []) outs)
  number_nothing zero outs are = are
  number_nothing (suc k) outs are = index_nothing k 1 outs are

  -- a text that any peer may be told first
  abbrev IsGreeting : List ℕ → Type 0
  IsGreeting text = (p : ℕ) → IsSaidTo p text

  out_more : (p : ℕ) (outs : List (List ℕ)) (text : List ℕ) → AreSaid p outs → IsGreeting text → AreSaid p (outs ++ text ∷ [])
  out_more p [] text are is = (is p, tt)
  out_more p (out ∷ outs) text are is = (are.0, out_more (suc p) outs text are.1 is)

  index_of : (k p q : ℕ) (outs : List (List ℕ)) → k + p ≡ q → AreSaid p outs → IsSaidTo q (unwrap_or (slice_get outs k) [])
  index_of k p q [] at are = ([], tt, tt, refl)
  index_of zero p q (out ∷ outs) at are = let same : p ≡ q = omega (arith, at) in subst (λ r. IsSaidTo r out) same are.0
  index_of (suc k) p q (out ∷ outs) at are = index_of k (suc p) q outs (let same : k + suc p ≡ q = omega (arith, at) in same) are.1

  number_of : (p : ℕ) (outs : List (List ℕ)) → AreSaid 1 outs → IsSaidTo p (unwrap_or (item_of p outs) [])
  number_of zero outs are = ([], tt, tt, refl)
  number_of (suc k) outs are = index_of k 1 (suc k) outs (omega arith) are

  -- ---- numbers of interests

  abbrev AreSmall : List Interest → Type 0
  AreSmall [] = Unit {0}
  AreSmall (i ∷ interests) = IsKnown asked i.peer i.sid × AreSmall interests

  abbrev AreAimed : List Target → Type 0
  AreAimed [] = Unit {0}
  AreAimed (t ∷ targets) = IsKnown asked t.peer t.sid × AreAimed targets

  small_cond : (test : Bool) (i : Interest) (more : List Interest) → IsKnown asked i.peer i.sid → AreSmall more → AreSmall (if test then i ∷ more else more)
  small_cond true i more is are = (is, are)
  small_cond false i more is are = are

  small_filter : (test : Interest → Bool) (interests : List Interest) → AreSmall interests → AreSmall (filter test interests)
  small_filter test [] are = tt
  small_filter test (i ∷ interests) are = small_cond (test i) i (filter test interests) are.0 (small_filter test interests are.1)

  -- a change that leaves an interest's peer and number
  abbrev Keeps : (Interest → Interest) → Type 0
  Keeps f = (i : Interest) → IsKnown asked i.peer i.sid → IsKnown asked (f i).peer (f i).sid

  small_change : (test : Bool) (f : Interest → Interest) (i : Interest) → Keeps f → IsKnown asked i.peer i.sid
      → IsKnown asked (if test then f i else i).peer (if test then f i else i).sid
  small_change true f i same is = same i is
  small_change false f i same is = is

  small_map : (peer sid : ℕ) (f : Interest → Interest) → Keeps f → (interests : List Interest) → AreSmall interests
      → AreSmall (map (λ i. if is_of peer sid i then f i else i) interests)
  small_map peer sid f same [] are = tt
  small_map peer sid f same (i ∷ interests) are = (small_change (is_of peer sid i) f i same are.0, small_map peer sid f same interests are.1)

  small_altered : (peer sid : ℕ) (f : Interest → Interest) → Keeps f → (interests : List Interest) → AreSmall interests
      → AreSmall (altered peer sid f interests)
  small_altered peer sid f same interests are =
      small_filter is_open (map (λ i. if is_of peer sid i then f i else i) interests) (small_map peer sid f same interests are)

  small_counted : (targets : List Target) (interests : List Interest) → AreSmall interests → AreSmall (counted_all targets interests)
  small_counted [] interests are = are
  small_counted (t ∷ targets) interests are =
      small_counted targets (count_of t.peer t.sid interests) (small_altered t.peer t.sid count_one (λ i is. is) interests are)

  small_more : (interests : List Interest) (i : Interest) → AreSmall interests → IsKnown asked i.peer i.sid → AreSmall (interests ++ i ∷ [])
  small_more [] i are is = (is, tt)
  small_more (first ∷ interests) i are is = (are.0, small_more interests i are.1 is)

  small_made : (test : Bool) (interests : List Interest) (i : Interest) → AreSmall interests → IsKnown asked i.peer i.sid
      → AreSmall (if test then interests else interests ++ i ∷ [])
  small_made true interests i are is = are
  small_made false interests i are is = small_more interests i are is

  -- ---- who gets a message

  better_small : (test : Bool) (i best : Interest) → IsKnown asked i.peer i.sid → IsKnown asked best.peer best.sid → IsKnown asked (if test then i else best).peer (if test then i else best).sid
  better_small true i best is are = is
  better_small false i best is are = are

  onto_small : (i : Interest) (bests : List Interest) → IsKnown asked i.peer i.sid → AreSmall bests → AreSmall (onto_pick i bests)
  onto_small i [] is are = (is, tt)
  onto_small i (best ∷ more) is are = by (slice_cmp nat_cmp (group_name i) (group_name best)) (onto_small i more is are.1)
    where
      by : (o : Ordering) → AreSmall (onto_pick i more)
          → AreSmall (match_ordering o (i ∷ best ∷ more) (better i best ∷ more) (best ∷ onto_pick i more))
      by Less later = (is, are)
      by Equal later = (better_small (has_less i best) i best is are.0, are.1)
      by Greater later = (are.0, later)

  pick_small : (test : Bool) (i : Interest) (bests : List Interest) → IsKnown asked i.peer i.sid → AreSmall bests → AreSmall (if test then bests else onto_pick i bests)
  pick_small true i bests is are = are
  pick_small false i bests is are = onto_small i bests is are

  picks_small : (found bests : List Interest) → AreSmall found → AreSmall bests → AreSmall (fold pick bests found)
  picks_small [] bests are best_are = best_are
  picks_small (i ∷ found) bests are best_are = picks_small found (pick bests i) are.1 (pick_small (is_plain i) i bests are.0 best_are)

  aimed : (interests : List Interest) → AreSmall interests → AreAimed (map target_of interests)
  aimed [] are = tt
  aimed (i ∷ interests) are = (are.0, aimed interests are.1)

  aimed_both : (some more : List Target) → AreAimed some → AreAimed more → AreAimed (some ++ more)
  aimed_both [] more are also = also
  aimed_both (t ∷ some) more are also = (are.0, aimed_both some more are.1 also)

  targets_aimed : (found : List Interest) → AreSmall found → AreAimed (targets_by found)
  targets_aimed found are =
      aimed_both (map target_of (filter is_plain found)) (map target_of (picks found))
      (aimed (filter is_plain found) (small_filter is_plain found are)) (aimed (picks found) (picks_small found [] are tt))

  -- ---- a router

  record Tells (r : RouterSeen) : Type 0 where
    small : AreSmall r.interests
    said_all : AreSaid 1 r.outs

  -- a message that any peer can be told under any number that it asked for
  abbrev IsToldBy : Publication → Type 0
  IsToldBy m = (p sid : ℕ) → IsKnown asked p sid → (one : Said) × IsTold p one × (message_text sid m.subject m.respond m.block m.payload ≡ said_text one)

  letters_said : (m : Publication) (targets : List Target) (outs : List (List ℕ)) → IsToldBy m → AreAimed targets → AreSaid 1 outs
      → AreSaid 1 (all_said (letters_of m targets) outs)
  letters_said m [] outs is are before = before
  letters_said m (t ∷ targets) outs is are before =
      let one = is t.peer t.sid are.0 in
      letters_said m targets (at_number t.peer (grown (message_text t.sid m.subject m.respond m.block m.payload)) outs) is are.1
      (subst (λ text. AreSaid 1 (at_number t.peer (grown text) outs)) (sym one.2) (number_said t.peer one.0 outs one.1 before))

  sent_tells : (m : Publication) (targets : List Target) (r : RouterSeen) → IsToldBy m → AreAimed targets → Tells r → Tells (sent_to m targets r)
  sent_tells m targets r is are tells = record {
    small = small_counted targets r.interests tells.small;
    said_all = letters_said m targets r.outs is are tells.said_all;
  }

  unanswered_by : (reply : List ℕ) → IsWord reply → IsToldBy (no_answer reply)
  unanswered_by reply is p sid known = (unanswered sid reply, ((known.0, is), known.1), refl)

  told_unheard_tells : (found : Option Interest) (reply : List ℕ) (r : RouterSeen) → IsWord reply
      → ((i : Interest) → found ≡ Some i → IsKnown asked i.peer i.sid) → Tells r → Tells (told_unheard (option_map target_of found) reply r)
  told_unheard_tells None reply r is aims tells = tells
  told_unheard_tells (Some i) reply r is aims tells =
      sent_tells (no_answer reply) (target_of i ∷ []) r (unanswered_by reply is) (aims i refl, tt) tells

  found_cond : (test : Bool) (x : Interest) (later : Option Interest) (i : Interest) → IsKnown asked x.peer x.sid → (later ≡ Some i → IsKnown asked i.peer i.sid)
      → (if test then Some x else later) ≡ Some i → IsKnown asked i.peer i.sid
  found_cond true x later i is behind at = let same : x ≡ i = cc in subst (λ (y : Interest). IsKnown asked y.peer y.sid) same is
  found_cond false x later i is behind at = behind at

  found_small : (test : Interest → Bool) (interests : List Interest) (i : Interest) → AreSmall interests → find test interests ≡ Some i → IsKnown asked i.peer i.sid
  found_small test [] i are at = cc
  found_small test (x ∷ interests) i are at = found_cond (test x) x (find test interests) i are.0 (found_small test interests i are.1) at

  unheard_tells : (wanted : Bool) (peer : ℕ) (respond : Option (List ℕ)) (r : RouterSeen) → IsWordOrNone respond → Tells r → Tells (unheard wanted peer respond r)
  unheard_tells wanted peer None r is tells = tells
  unheard_tells false peer (Some reply) r is tells = tells
  unheard_tells true peer (Some reply) r is tells =
      told_unheard_tells (find (answers peer reply) r.interests) reply r is (λ i at. found_small (answers peer reply) r.interests i tells.small at) tells

  to_tells : (targets : List Target) (wanted : Bool) (peer : ℕ) (m : Publication) (r : RouterSeen) → IsToldBy m → IsWordOrNone m.respond → AreAimed targets
      → Tells r → Tells (published_to targets wanted peer m r)
  to_tells [] wanted peer m r is reply are tells = unheard_tells wanted peer m.respond r reply tells
  to_tells (t ∷ targets) wanted peer m r is reply are tells = sent_tells m (t ∷ targets) r is are tells

  published_tells : (peer : ℕ) (echo wanted : Bool) (m : Publication) (r : RouterSeen) → IsToldBy m → IsWordOrNone m.respond → Tells r
      → Tells (published peer echo wanted m r)
  published_tells peer echo wanted m r is reply tells =
      to_tells (targets_by (heard peer echo m.subject r.interests)) wanted peer m r is reply
      (targets_aimed (heard peer echo m.subject r.interests) (small_filter (hears peer echo m.subject) r.interests tells.small)) tells

  -- ---- a broker

  record TellsAll (b : BrokerSeen) : Type 0 where
    limit : b.max_payload < 2 ^ 64
    greets : IsGreeting b.info
    router_tells : Tells b.router

  counts : (block : Option (List ℕ)) (payload : List ℕ) (n : ℕ) → counted block payload ≤ n → n < 2 ^ 64 → IsCounted block payload
  counts None payload n less small = omega (arith, less, small)
  counts (Some block) payload n less small = omega (arith, less, small)

  message_by : (m : Publication) (size : ℕ) → IsMessage m size → size < 2 ^ 64 → IsToldBy m
  message_by m size is small p sid known = (
    told sid m.subject m.respond is.0 m.payload,
    ((known.0, is.2, is.3, is.4, subst (λ block. IsCounted block m.payload) is.1 (counts m.block m.payload size is.5 small)), known.1),
    ap (λ block. message_text sid m.subject m.respond block m.payload) is.1,
  )

  -- a peer is told one thing
  one_told : (p : ℕ) (one : Said) (r : RouterSeen) → IsTold p one → Tells r → Tells (said_to p (said_text one) r)
  one_told p one r is tells = record { small = tells.small; said_all = number_said p one r.outs is tells.said_all }

  nothing_told : (p : ℕ) (r : RouterSeen) → Tells r → Tells (said_to p [] r)
  nothing_told p r tells = record { small = tells.small; said_all = number_nothing p r.outs tells.said_all }

  end_told : (p : ℕ) (w : PeerWord) (r : RouterSeen) → Tells r → Tells (said_to p (end_text w) r)
  end_told p word.Bad r tells = one_told p (refused unknown_operation) r (tt, tt) tells
  end_told p word.Size r tells = one_told p (refused payload_violation) r (tt, tt) tells
  end_told p word.Up r tells = nothing_told p r tells
  end_told p word.Left r tells = nothing_told p r tells

  closed_tells : (p : ℕ) (r : RouterSeen) → Tells r → Tells (closed_by p r)
  closed_tells p r tells = record { small = small_filter (λ i. not (i.peer == p)) r.interests tells.small; said_all = tells.said_all }

  ended_tells : (p : ℕ) (w : PeerWord) (b : BrokerSeen) → TellsAll b → TellsAll (peer_ended p w b)
  ended_tells p w b tells = record {
    limit = tells.limit;
    greets = tells.greets;
    router_tells = closed_tells p (said_to p (end_text w) b.router) (end_told p w b.router tells.router_tells);
  }

  subscribe_tells : (test : Bool) (p sid : ℕ) (pattern : List ℕ) (group : Option (List ℕ)) (b : BrokerSeen) → IsKnown asked p sid → TellsAll b
      → TellsAll (if test then record b { router = record b.router { interests = subscribed p sid pattern group b.router.interests } }
      else told_line p (codes "-ERR 'Invalid Subject'") b)
  subscribe_tells true p sid pattern group b small tells = record {
    limit = tells.limit;
    greets = tells.greets;
    router_tells = record {
      small = small_made (list_any (is_of p sid) b.router.interests) b.router.interests (new_interest p sid pattern group) tells.router_tells.small small;
      said_all = tells.router_tells.said_all;
    };
  }
  subscribe_tells false p sid pattern group b small tells = record {
    limit = tells.limit;
    greets = tells.greets;
    router_tells = one_told p (refused invalid_subject) b.router (tt, tt) tells.router_tells;
  }

  publish_tells : (p : ℕ) (peer : Option Peer) (m : Publication) (b : BrokerSeen) → IsToldBy m → IsWordOrNone m.respond → TellsAll b → TellsAll (publish_by p peer m b)
  publish_tells p None m b is reply tells = tells
  publish_tells p (Some peer) m b is reply tells = record {
    limit = tells.limit;
    greets = tells.greets;
    router_tells = published_tells p peer.echo peer.no_responders m b.router is reply tells.router_tells;
  }

  size_tells : (over : Bool) (p : ℕ) (m : Publication) (size : ℕ) (b : BrokerSeen) → nat_lt b.max_payload size ≡ over → IsMessage m size → TellsAll b
      → TellsAll (if over then peer_ended p word.Size b else publish_by p (item_of p b.peers) m b)
  size_tells true p m size b at is tells = ended_tells p word.Size b tells
  size_tells false p m size b at is tells =
      publish_tells p (item_of p b.peers) m b (message_by m size is (omega (arith, ltb-false b.max_payload size at, tells.limit))) is.3 tells

  -- what commands ask for is among what their peer asks for
  abbrev AsksOf : ℕ → Command → Type 0
  AsksOf p (Subscribe sid pattern group) = is_among sid (asked p) ≡ true
  AsksOf p (Publish m size) = Unit {0}
  AsksOf p (Unsubscribe sid most) = Unit {0}
  AsksOf p Ping = Unit {0}
  AsksOf p Pong = Unit {0}
  AsksOf p (Connect wishes) = Unit {0}

  abbrev AskAll : ℕ → List Command → Type 0
  AskAll p [] = Unit {0}
  AskAll p (command ∷ commands) = AsksOf p command × AskAll p commands

  ask_first : (p : ℕ) (some more : List Command) → AskAll p (some ++ more) → AskAll p some
  ask_first p [] more ask = tt
  ask_first p (command ∷ some) more ask = (ask.0, ask_first p some more ask.1)

  ask_later : (p : ℕ) (some more : List Command) → AskAll p (some ++ more) → AskAll p more
  ask_later p [] more ask = ask
  ask_later p (command ∷ some) more ask = ask_later p some more ask.1

  command_tells : (p : ℕ) (command : Command) (b : BrokerSeen) → IsFit command → AsksOf p command → TellsAll b → TellsAll (command_done p command b)
  command_tells p (Subscribe sid pattern group) b is asks tells = subscribe_tells (is_valid pattern) p sid pattern group b (is, asks) tells
  command_tells p (Unsubscribe sid most) b is asks tells = record {
    limit = tells.limit;
    greets = tells.greets;
    router_tells = record {
      small = small_altered p sid (limit_to (most_of most)) (λ i is. is) b.router.interests tells.router_tells.small;
      said_all = tells.router_tells.said_all;
    };
  }
  command_tells p (Publish m size) b is asks tells = size_tells (nat_lt b.max_payload size) p m size b refl is tells
  command_tells p Ping b is asks tells = record {
    limit = tells.limit;
    greets = tells.greets;
    router_tells = one_told p pong b.router (tt, tt) tells.router_tells;
  }
  command_tells p Pong b is asks tells = tells
  command_tells p (Connect wishes) b is asks tells = record { limit = tells.limit; greets = tells.greets; router_tells = tells.router_tells }

  taken_tells : (p n : ℕ) (b : BrokerSeen) → TellsAll b → TellsAll (taken_from p n b)
  taken_tells p n b tells = record { limit = tells.limit; greets = tells.greets; router_tells = tells.router_tells }

  front_tells : (text : List ℕ) (p : ℕ) (found : PeerFront) (b next : BrokerSeen) → ReadsFit → AskAll p (front_command found)
      → peer_front text ≡ found → TellsAll b → due_front p found b ≡ Some next → TellsAll next
  front_tells text p Unfinished b next reads asks at tells is = cc
  front_tells text p Bad b next reads asks at tells is =
      let same : peer_ended p word.Bad b ≡ next = cc in subst TellsAll same (ended_tells p word.Bad b tells)
  front_tells text p (Got command n) b next reads asks at tells is =
      let same : taken_from p n (command_done p command b) ≡ next = cc in
      subst TellsAll same (taken_tells p n (command_done p command b) (command_tells p command b (reads text command n at) asks.0 tells))

  peer_tells : (p : ℕ) (peer : Option Peer) (b next : BrokerSeen) → ReadsFit → AskAll p (command_at peer) → TellsAll b → due_of p peer b ≡ Some next
      → TellsAll next
  peer_tells p None b next reads asks tells is = cc
  peer_tells p (Some peer) b next reads asks tells is = front_tells peer.unread p (peer_front peer.unread) b next reads asks refl tells is

  -- the commands that are done for the peer that was fed last
  fed_asks : (b : BrokerSeen) → AskAll b.fed (next_for b.fed b) → AskAll b.fed (command_at (fed_peer b))
  fed_asks b asks =
      subst (λ test. AskAll b.fed (if test then command_at (fed_peer b) else [])) (eq-eqb b.fed b.fed refl) asks

  settled_tells : (most : ℕ) (found : Option BrokerSeen) (b : BrokerSeen) → ReadsFit → ((p : ℕ) → AskAll p (done_by p most found b)) → due b ≡ found
      → TellsAll b → TellsAll (settled_by most found b)
  settled_tells zero None b reads asks at tells = tells
  settled_tells (suc most) None b reads asks at tells = tells
  settled_tells zero (Some next) b reads asks at tells = tells
  settled_tells (suc most) (Some next) b reads asks at tells =
      settled_tells most (due next) next reads (λ p. ask_later p (next_for p b) (done_by p most (due next) next) (asks p)) refl
      (peer_tells b.fed (fed_peer b) b next reads (fed_asks b (ask_first b.fed (next_for b.fed b) (done_by b.fed most (due next) next) (asks b.fed))) tells at)

  own_tells : (turn : BrokerTurn) (b : BrokerSeen) → TellsAll b → TellsAll (own turn b)
  own_tells Join b tells = record {
    limit = tells.limit;
    greets = tells.greets;
    router_tells = record { small = tells.router_tells.small; said_all = out_more 1 b.router.outs b.info tells.router_tells.said_all tells.greets };
  }
  own_tells (Feed p bytes) b tells = record { limit = tells.limit; greets = tells.greets; router_tells = tells.router_tells }
  own_tells (Leave p) b tells = record { limit = tells.limit; greets = tells.greets; router_tells = closed_tells p b.router tells.router_tells }

  played_tells : (turns : List BrokerTurn) (b : BrokerSeen) → ReadsFit → ((p : ℕ) → AskAll p (done_for p turns b)) → TellsAll b → TellsAll (played turns b)
  played_tells [] b reads asks tells = tells
  played_tells (turn ∷ turns) b reads asks tells =
      played_tells turns (after_turn turn b) reads (λ p. ask_later p (done_in p (own turn b)) (done_for p turns (after_turn turn b)) (asks p))
      (settled_tells (unread_len (fed_peer (own turn b))) (due (own turn b)) (own turn b) reads
      (λ p. ask_first p (done_in p (own turn b)) (done_for p turns (after_turn turn b)) (asks p)) refl (own_tells turn b tells))

  new_tells : (info : BrokerInfo) → is_token info.server_id ≡ true → info.max_payload < 2 ^ 64 → TellsAll (new_broker info)
  new_tells info token small = record {
    limit = small;
    greets = λ p. (hello info.server_id info.max_payload ∷ [], ((token, small), tt), (tt, tt), sym (append-nil (info_text info.server_id info.max_payload)));
    router_tells = record { small = tt; said_all = tt };
  }

-- ---- the laws

among_more : (n other : ℕ) (numbers : List ℕ) → is_among n numbers ≡ true → is_among n (other ∷ numbers) ≡ true
among_more n other numbers is = by (other == n)
  where
    by : (b : Bool) → (b || is_among n numbers) ≡ true
    by true = refl
    by false = is

among_here : (n : ℕ) (numbers : List ℕ) → is_among n (n ∷ numbers) ≡ true
among_here n numbers = ap (λ b. b || is_among n numbers) (eq-eqb n n refl)

-- each number that some commands ask for is among those that they ask for
more_asked : (all : ℕ → List ℕ) (p : ℕ) (commands : List Command) → ((n : ℕ) → is_among n (asked_numbers commands) ≡ true → is_among n (all p) ≡ true)
    → AskAll all p commands
more_asked all p [] are = tt
more_asked all p (Subscribe sid pattern group ∷ commands) are =
    (are sid (among_here sid (asked_numbers commands)), more_asked all p commands (λ n is. are n (among_more n sid (asked_numbers commands) is)))
more_asked all p (Publish m size ∷ commands) are = (tt, more_asked all p commands are)
more_asked all p (Unsubscribe sid most ∷ commands) are = (tt, more_asked all p commands are)
more_asked all p (Ping ∷ commands) are = (tt, more_asked all p commands are)
more_asked all p (Pong ∷ commands) are = (tt, more_asked all p commands are)
more_asked all p (Connect wishes ∷ commands) are = (tt, more_asked all p commands are)

pub told_as_asked : ReadsFit → ToldAsAsked
told_as_asked reads info turns p token small =
    let asked = λ (q : ℕ). asked_numbers (done_for q turns (new_broker info)) in
    let tells = played_tells asked turns (new_broker info) reads
    (λ q. more_asked asked q (done_for q turns (new_broker info)) (λ n is. is)) (new_tells asked info token small) in
    number_of asked p (played turns (new_broker info)).router.outs tells.router_tells.said_all

pub waits_as_said : ReadsFit → WaitsAsSaid
waits_as_said reads info turns p token small =
    let all = told_as_asked reads info turns p token small in
    (all.0, all.1, all.3)
