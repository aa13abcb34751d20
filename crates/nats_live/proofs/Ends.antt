-- What a session on a link comes to, by what its loops leave.
use Rattle.std.proofs.Common.{◌≡◌, refl, ◌∙◌, sym, ap, subst, inl, inr, ◌⊎◌, ℕ, ◌+◌, ◌-◌, ◌<◌, ◌≤◌, arith, true, false, true≢false, List, [], ◌++◌, length, take, append-nil, flat_map, Some, None, IfOk, IfErr, OnOk, Result, Ok, Err}
use Rattle.std.specs.Global.{Vec}
use Rattle.nats_info.specs.declared.info.ServerInfo.{ServerInfo}
use Rattle.nats_names.specs.declared.cause.Cause.TheVariants as cause
use Rattle.nats_outside.specs.Told.{Seen as World, ReadTold, WriteTold}
use Rattle.nats_lines.specs.Operations.{Operation, operations}
use Rattle.nats_session.specs.Handler.{Seen}
use Rattle.nats_dial.specs.Causes.{Onward}
use Rattle.nats_dial.specs.Lines.{Took}
use Rattle.nats_dial.specs.Tries.{IsUp}
use Rattle.nats_system.specs.declared.errors.PublishErrorKind.TheVariants as publishing
use Rattle.nats_system.specs.declared.errors.SubscribeErrorKind.TheVariants as subscribing
use Rattle.std.proofs.lemmas.Bool.{false≢true}
use Rattle.nats_core.specs.declared.answers.ReadOnce.{ReadOnce}
use Rattle.nats_core.specs.declared.answers.ReadOnce.TheVariants as reads
use Rattle.nats_core.proofs.Dues.{none_played}
use Rattle.nats_core.specs.Journal.{Logged}
use Rattle.nats_message_text.specs.Printed.{message_line}
use Rattle.nats_live.specs.declared.error.LiveError.{LiveError}
use Rattle.nats_live.specs.declared.error.LiveError.TheVariants as refused
use Rattle.nats_live.specs.Back.{IsBack}
use Rattle.nats_live.specs.Causes.{OffersNothing, DialedTo, Shows, LinkBrokeOrEnded, FaultLater, WhyNotPublished, WhyNotReceived}
use Rattle.nats_live.specs.Ended.{messages, limit_with, ends_in_fault, WasPublished, WasReceived}
use Rattle.nats_live.specs.Steps.{ReadsWhole}
use Rattle.nats_live.specs.Flow.{HasBegun, Accepts, FlushEnds, Publishes, PublishedOver, Receives, Subscribes, IsReceiving, IsOver, IsWritten, TakesAll, ReceiveEnds, ReceivesAll, ReceivedOver, CameSoFar, GaveLater, published_text, subscribed_text}
use Rattle.nats_live.proofs.Handing.{gave_nothing, ends_shown, broke, broke_or_ended, link_ended, was_published, fault_in_rest, too_large, was_received, fewer_came, fault_later}
use Rattle.nats_live.proofs.Rounds.{asked_more, over_more, printed_more, printed_same, read_lost, read_more}

-- ---- the rounds of receiving

-- before a round: some messages were taken, more are wanted
pub record RoundsOn (subject joined : List ℕ) (first : List Operation) (head : List ℕ) (count wanted : ℕ)
    (text : List ℕ) (seen : Seen)
    (r0 r : ReadTold) (w : WriteTold) : Type 0 where
  pub taken : ℕ
  pub far : IsReceiving subject joined first taken head seen r0 r w
  pub sum : taken + wanted ≡ count
  pub some : 1 ≤ wanted
  pub printed : text ≡ flat_map message_line (take taken (messages 1 far.since))

pub rounds_begin : (subject joined : List ℕ) (first : List Operation) (head : List ℕ) (count : ℕ) (seen : Seen)
    (r : ReadTold) (w : WriteTold)
    → Receives subject joined first [] [] 0 seen → seen.parts.link.is_up ≡ true → Took head w → 1 ≤ count
    → RoundsOn subject joined first head count count [] seen r r w
rounds_begin subject joined first head count seen r w receives up took some = record {
  taken = 0;
  far = record {
    bytes = [];
    since = [];
    took = [];
    gave = gave_nothing r;
    receives = subst (λ (b : List ℕ). Receives subject b first [] [] 0 seen) (sym (append-nil joined)) receives;
    wrote = subst (λ (t : List ℕ). Took t w) (sym (append-nil head)) took;
    asked = inl refl;
    over = λ down. absurd (true≢false (sym up ∙ down));
  };
  sum = omega arith;
  some = some;
  printed = refl;
}

-- within a round, once all was written and what came was taken
pub record RoundTaken (subject joined : List ℕ) (first : List Operation) (head : List ℕ) (count left : ℕ)
    (text : List ℕ) (seen : Seen)
    (r0 r : ReadTold) (w : WriteTold) : Type 0 where
  pub taken : ℕ
  pub far : IsReceiving subject joined first taken head seen r0 r w
  pub sum : taken + left ≡ count
  pub printed : text ≡ flat_map message_line (take taken (messages 1 far.since))
  pub all : (left ≡ 0) ⊎ (taken ≡ length (messages 1 far.since))
  pub whole : seen.parts.link.is_up ≡ true → far.took ≡ subscribed_text subject first far.since

pub round_taken : (subject joined : List ℕ) (first : List Operation) (head : List ℕ) (count wanted left : ℕ)
    (text after : List ℕ)
    (old mid new : Seen) (r0 r : ReadTold) (before w : WriteTold)
    (on : RoundsOn subject joined first head count wanted text old r0 r before)
    → IsWritten subject (joined ++ on.far.bytes) first on.far.since on.far.took on.taken head old.parts.link.is_up
    (Ok tt) mid before w
    → ((took : List ℕ) → Receives subject (joined ++ on.far.bytes) first on.far.since took on.taken mid
    → TakesAll subject (joined ++ on.far.bytes) first on.far.since took on.taken mid.parts.link.is_up wanted text
    (Ok left) new after)
    → RoundTaken subject joined first head count left after new r0 r w
round_taken subject joined first head count wanted left text after old mid new r0 r before w on wrote takes =
    let took = on.far.took ++ wrote.0 in
    let t = takes took wrote.1 in
    record {
      taken = on.taken + (wanted - left);
      far = record {
        bytes = on.far.bytes;
        since = on.far.since;
        took = took;
        gave = on.far.gave;
        receives = t.2;
        wrote = wrote.2;
        asked = asked_more subject on.far.took wrote.0 first on.far.since on.far.asked;
        over = λ down. over_more (joined ++ on.far.bytes) r before w old.parts.link.is_up wrote.3 on.far.over
            (wrote.5 (sym t.1 ∙ down));
      };
      sum = omega (arith, on.sum, t.0);
      printed = printed_more on.taken (wanted - left) (messages 1 on.far.since) text after on.printed t.3;
      all = t.4;
      whole = λ up. wrote.4 (sym t.1 ∙ up);
    }

-- enough messages were taken
pub round_ends : (subject joined : List ℕ) (first : List Operation) (head : List ℕ) (count : ℕ) (text : Vec ℕ)
    (seen : Seen) (r0 r : ReadTold)
    (w : WriteTold) → RoundTaken subject joined first head count 0 text.items seen r0 r w
    → ReceiveEnds subject joined first count head (Ok text) seen r0 r w
round_ends subject joined first head count text seen r0 r w t =
    let same : t.taken ≡ count = omega (arith, t.sum) in (
    subst (λ (n : ℕ). (far : IsReceiving subject joined first n head seen r0 r w)
    × (text.items ≡ flat_map message_line (take n (messages 1 far.since)))) same (t.far, t.printed)
    )

-- the link is over first
pub round_over : (subject joined : List ℕ) (first : List Operation) (head : List ℕ) (count left : ℕ) (text : List ℕ)
    (seen : Seen) (r0 r : ReadTold)
    (w : WriteTold) → RoundTaken subject joined first head count left text seen r0 r w → 1 ≤ left
    → seen.parts.link.is_up ≡ false
    → ReceiveEnds subject joined first count head (Err refused.LinkEnded) seen r0 r w
round_over subject joined first head count left text seen r0 r w t some down =
    (t.taken, t.far, all_of t.all, omega (arith, t.sum, some), down)
  where
    all_of : (left ≡ 0) ⊎ (t.taken ≡ length (messages 1 t.far.since)) → t.taken ≡ length (messages 1 t.far.since)
    all_of (inl none) = absurd (omega (arith, none, some))
    all_of (inr all) = all

-- a read goes on to the next round
pub round_read : (subject joined : List ℕ) (first : List Operation) (head buf : List ℕ) (count left n : ℕ)
    (text : List ℕ) (old new : Logged)
    (r0 r after : ReadTold) (w : WriteTold) → RoundTaken subject joined first head count left text old.session r0 r w
    → 1 ≤ left
    → old.session.parts.link.is_up ≡ true → length buf < 65536 → ReadsWhole old buf r after (Ok (reads.Played n)) new
    → RoundsOn subject joined first head count left text new.session r0 after w
round_read subject joined first head buf count left n text old new r0 r after w t some up fits read =
    let next = read_more subject joined first t.taken head buf n old new r0 r after w t.far (all_of t.all)
    (t.whole up) fits read in
    record {
      taken = t.taken;
      far = next.0;
      sum = t.sum;
      some = some;
      printed = printed_same t.taken t.far.since next.1 next.0.since text t.far.receives.fits next.2 t.printed;
    }
  where
    all_of : (left ≡ 0) ⊎ (t.taken ≡ length (messages 1 t.far.since)) → t.taken ≡ length (messages 1 t.far.since)
    all_of (inl none) = absurd (omega (arith, none, some))
    all_of (inr all) = all

pub round_lost : (subject joined : List ℕ) (first : List Operation) (head buf : List ℕ) (count left : ℕ)
    (text : List ℕ) (old new : Logged)
    (r0 r after : ReadTold) (w : WriteTold) → RoundTaken subject joined first head count left text old.session r0 r w
    → 1 ≤ left
    → ReadsWhole old buf r after (Ok reads.Lost) new → RoundsOn subject joined first head count left text new.session
    r0 after w
round_lost subject joined first head buf count left text old new r0 r after w t some read =
    let next = read_lost subject joined first t.taken head buf old new r0 r after w t.far read in
    record {
      taken = t.taken;
      far = next.0;
      sum = t.sum;
      some = some;
      printed = t.printed ∙ ap (λ (ops : List Operation). flat_map message_line (take t.taken (messages 1 ops)))
          (sym next.1);
    }

pub round_on : (subject joined : List ℕ) (first : List Operation) (head buf : List ℕ) (count left : ℕ) (text : List ℕ)
    (old new : Logged)
    (r0 r after : ReadTold) (w : WriteTold) (once : ReadOnce)
    → RoundTaken subject joined first head count left text old.session r0 r w
    → 1 ≤ left → old.session.parts.link.is_up ≡ true → length buf < 65536 → ReadsWhole old buf r after (Ok once) new
    → RoundsOn subject joined first head count left text new.session r0 after w
round_on subject joined first head buf count left text old new r0 r after w (reads.Played n) t some up fits read =
    round_read subject joined first head buf count left n text old new r0 r after w t some up fits read
round_on subject joined first head buf count left text old new r0 r after w reads.Lost t some up fits read =
    round_lost subject joined first head buf count left text old new r0 r after w t some read
round_on subject joined first head buf count left text old new r0 r after w reads.Gone t some up fits read =
    absurd (false≢true (sym read.0
    ∙ (ap (λ (s : Seen). s.parts.link.is_up) (none_played old.session t.far.receives.settled) ∙ up)))

-- ---- a session, seen by its link alone

came : (subject joined : List ℕ) (first : List Operation) (taken : ℕ) (head : List ℕ) (seen : Seen) (r0 r : ReadTold)
    (w : WriteTold)
    → first ≡ operations joined → IsReceiving subject joined first taken head seen r0 r w
    → CameSoFar subject joined head r0 r w
came subject joined first taken head seen r0 r w is far = record {
  bytes = far.bytes;
  since = far.since;
  took = far.took;
  left = far.receives.left;
  gave = far.gave;
  all = far.receives.all ∙ ap (λ (ops : List Operation). ops ++ far.since) is;
  text = far.receives.text ∙ ap (λ (ops : List Operation). subscribed_text subject ops far.since) is;
  wrote = far.wrote;
}

-- once a message came the text of the subscribe was taken
asked_when : (subject took : List ℕ) (first since : List Operation) (n : ℕ) → 1 ≤ n → n ≤ length (messages 1 since)
    → (since ≡ []) ⊎ ((answered : List ℕ) × (took ≡ subscribed_text subject first [] ++ answered))
    → (answered : List ℕ) × (took ≡ subscribed_text subject first [] ++ answered)
asked_when subject took first since n some enough (inl none) =
    absurd (omega (arith, some, enough, ap (λ (ops : List Operation). length (messages 1 ops)) none))
asked_when subject took first since n some enough (inr is) = is

pub received_over : (joined head subject : List ℕ) (n : ℕ) (seen : Seen) (r0 r : ReadTold) (w : WriteTold)
    (result : Result (Vec ℕ) LiveError) → 1 ≤ n → ReceivesAll joined head subject n result seen r0 r w
    → ReceivedOver joined head subject n result r0 r w
unfolding came
received_over joined head subject n seen r0 r w (Ok text) some all =
    let far = all.0 in (
      came subject joined (operations joined) n head seen r0 r w refl far,
      far.receives.fits,
      all.1,
      asked_when subject far.took (operations joined) far.since n some far.receives.fits far.asked,
    )
received_over joined head subject n seen r0 r w (Err (refused.Subscribe (subscribing.InvalidSubject, source))) some
    all = all
received_over joined head subject n seen r0 r w (Err (refused.Subscribe (subscribing.InvalidQueueName, source))) some
    all = absurd all
received_over joined head subject n seen r0 r w (Err (refused.Subscribe (subscribing.Other, source))) some all =
    absurd all
received_over joined head subject n seen r0 r w (Err (refused.Subscribe (subscribing.Full, source))) some all =
    absurd all
received_over joined head subject n seen r0 r w (Err (refused.Subscribe (subscribing.NoMemory, source))) some all =
    absurd all
received_over joined head subject n seen r0 r w (Err (refused.Publish e)) some all = absurd all
received_over joined head subject n seen r0 r w (Err (refused.Connect e)) some all = absurd all
received_over joined head subject n seen r0 r w (Err refused.LinkEnded) some (inl none) = inl none
received_over joined head subject n seen r0 r w (Err refused.LinkEnded) some (inr all) =
    let far = all.1 in
    inr (
      came subject joined (operations joined) all.0 head seen r0 r w refl far,
      omega (arith, all.2, all.3),
      far.over all.4,
    )
received_over joined head subject n seen r0 r w (Err refused.NoMemory) some all = tt

-- a subscribe that was refused is all that comes of receiving
pub subscribes_err : (joined head subject : List ℕ) (n : ℕ) (old new seen : Seen) (r0 r : ReadTold) (w : WriteTold)
    (e : LiveError) → Subscribes joined subject (Err e) old new → ReceivesAll joined head subject n (Err e) seen r0 r w
subscribes_err joined head subject n old new seen r0 r w (refused.Subscribe (subscribing.InvalidSubject, source)) is =
    is
subscribes_err joined head subject n old new seen r0 r w
    (refused.Subscribe (subscribing.InvalidQueueName, source)) is = absurd is
subscribes_err joined head subject n old new seen r0 r w (refused.Subscribe (subscribing.Other, source)) is = absurd is
subscribes_err joined head subject n old new seen r0 r w (refused.Subscribe (subscribing.Full, source)) is = absurd is
subscribes_err joined head subject n old new seen r0 r w (refused.Subscribe (subscribing.NoMemory, source)) is =
    absurd is
subscribes_err joined head subject n old new seen r0 r w (refused.Publish e) is = absurd is
subscribes_err joined head subject n old new seen r0 r w (refused.Connect e) is = absurd is
subscribes_err joined head subject n old new seen r0 r w refused.LinkEnded is = absurd is
subscribes_err joined head subject n old new seen r0 r w refused.NoMemory is = tt

-- ---- a publish, seen by its link alone

-- a call was refused before anything was written
pub publishes_err : (limit : ℕ) (joined head subject payload : List ℕ) (old new : Seen) (w : WriteTold) (e : LiveError)
    → Accepts limit joined subject payload (Err e) old new → Publishes limit joined head subject payload (Err e) old w
publishes_err limit joined head subject payload old new w (refused.Publish (publishing.InvalidSubject, source)) is = is
publishes_err limit joined head subject payload old new w
    (refused.Publish (publishing.MaxPayloadExceeded, Some (cause.Payload most size))) is = is
publishes_err limit joined head subject payload old new w (refused.Publish (publishing.MaxPayloadExceeded, None)) is =
    absurd is
publishes_err limit joined head subject payload old new w
    (refused.Publish (publishing.MaxPayloadExceeded, Some cause.Closed)) is = absurd is
publishes_err limit joined head subject payload old new w
    (refused.Publish (publishing.MaxPayloadExceeded, Some cause.NoNumber)) is = absurd is
publishes_err limit joined head subject payload old new w
    (refused.Publish (publishing.MaxPayloadExceeded, Some cause.NoPart)) is = absurd is
publishes_err limit joined head subject payload old new w
    (refused.Publish (publishing.MaxPayloadExceeded, Some cause.Format)) is = absurd is
publishes_err limit joined head subject payload old new w
    (refused.Publish (publishing.MaxPayloadExceeded, Some cause.NoResponders)) is = absurd is
publishes_err limit joined head subject payload old new w
    (refused.Publish (publishing.MaxPayloadExceeded, Some cause.BrokenPipe)) is = absurd is
publishes_err limit joined head subject payload old new w
    (refused.Publish (publishing.MaxPayloadExceeded, Some cause.Dropped)) is = absurd is
publishes_err limit joined head subject payload old new w
    (refused.Publish (publishing.MaxPayloadExceeded, Some cause.NoInfo)) is = absurd is
publishes_err limit joined head subject payload old new w
    (refused.Publish (publishing.MaxPayloadExceeded, Some (cause.Unexpected x))) is = absurd is
publishes_err limit joined head subject payload old new w
    (refused.Publish (publishing.MaxPayloadExceeded, Some cause.Fault)) is = absurd is
publishes_err limit joined head subject payload old new w
    (refused.Publish (publishing.MaxPayloadExceeded, Some cause.ReadFault)) is = absurd is
publishes_err limit joined head subject payload old new w
    (refused.Publish (publishing.MaxPayloadExceeded, Some cause.NoPong)) is = absurd is
publishes_err limit joined head subject payload old new w
    (refused.Publish (publishing.MaxPayloadExceeded, Some cause.NoAddress)) is = absurd is
publishes_err limit joined head subject payload old new w
    (refused.Publish (publishing.MaxPayloadExceeded, Some cause.AllFailed)) is = absurd is
publishes_err limit joined head subject payload old new w
    (refused.Publish (publishing.MaxPayloadExceeded, Some (cause.Server x))) is = absurd is
publishes_err limit joined head subject payload old new w
    (refused.Publish (publishing.MaxPayloadExceeded, Some (cause.Auth x))) is = absurd is
publishes_err limit joined head subject payload old new w
    (refused.Publish (publishing.MaxPayloadExceeded, Some (cause.Addr x))) is = absurd is
publishes_err limit joined head subject payload old new w
    (refused.Publish (publishing.MaxPayloadExceeded, Some (cause.Io x))) is = absurd is
publishes_err limit joined head subject payload old new w
    (refused.Publish (publishing.MaxPayloadExceeded, Some cause.NoMemory)) is = absurd is
publishes_err limit joined head subject payload old new w (refused.Publish (publishing.Send, source)) is = absurd is
publishes_err limit joined head subject payload old new w (refused.Publish (publishing.Full, source)) is = absurd is
publishes_err limit joined head subject payload old new w (refused.Publish (publishing.NoMemory, source)) is =
    absurd is
publishes_err limit joined head subject payload old new w (refused.Subscribe e) is = absurd is
publishes_err limit joined head subject payload old new w (refused.Connect e) is = absurd is
publishes_err limit joined head subject payload old new w refused.LinkEnded is = absurd is
publishes_err limit joined head subject payload old new w refused.NoMemory is = tt

-- both were accepted, and the flush came to its end
pub publishes_ok : (limit : ℕ) (joined head subject payload : List ℕ) (old mid : Seen) (w : WriteTold) (ticket : ℕ)
    (result : Result (Unit {0}) LiveError) → Accepts limit joined subject payload (Ok ticket) old mid
    → FlushEnds mid.parts.link.is_up (head ++ published_text joined subject payload) result w
    → Publishes limit joined head subject payload result old w
publishes_ok limit joined head subject payload old mid w ticket (Ok done) taken ends = ends
publishes_ok limit joined head subject payload old mid w ticket (Err refused.LinkEnded) taken (inl down) =
    inl (sym taken.2 ∙ down)
publishes_ok limit joined head subject payload old mid w ticket (Err refused.LinkEnded) taken (inr failed) = inr failed
publishes_ok limit joined head subject payload old mid w ticket (Err refused.NoMemory) taken ends = tt
publishes_ok limit joined head subject payload old mid w ticket (Err (refused.Connect e)) taken ends = absurd ends
publishes_ok limit joined head subject payload old mid w ticket (Err (refused.Publish e)) taken ends = absurd ends
publishes_ok limit joined head subject payload old mid w ticket (Err (refused.Subscribe e)) taken ends = absurd ends

pub published_over : (limit : ℕ) (joined head subject payload : List ℕ) (old : Seen) (w : WriteTold)
    (result : Result (Unit {0}) LiveError)
    → HasBegun limit joined old → Publishes limit joined head subject payload result old w
    → PublishedOver limit joined head subject payload result w
published_over limit joined head subject payload old w (Ok done) b is = is
published_over limit joined head subject payload old w (Err (refused.Publish (publishing.InvalidSubject, source))) b
    is = is
published_over limit joined head subject payload old w
    (Err (refused.Publish (publishing.MaxPayloadExceeded, Some (cause.Payload most size)))) b is = is
published_over limit joined head subject payload old w (Err (refused.Publish (publishing.MaxPayloadExceeded, None))) b
    is = absurd is
published_over limit joined head subject payload old w
    (Err (refused.Publish (publishing.MaxPayloadExceeded, Some cause.Closed))) b is = absurd is
published_over limit joined head subject payload old w
    (Err (refused.Publish (publishing.MaxPayloadExceeded, Some cause.NoNumber))) b is = absurd is
published_over limit joined head subject payload old w
    (Err (refused.Publish (publishing.MaxPayloadExceeded, Some cause.NoPart))) b is = absurd is
published_over limit joined head subject payload old w
    (Err (refused.Publish (publishing.MaxPayloadExceeded, Some cause.Format))) b is = absurd is
published_over limit joined head subject payload old w
    (Err (refused.Publish (publishing.MaxPayloadExceeded, Some cause.NoResponders))) b is = absurd is
published_over limit joined head subject payload old w
    (Err (refused.Publish (publishing.MaxPayloadExceeded, Some cause.BrokenPipe))) b is = absurd is
published_over limit joined head subject payload old w
    (Err (refused.Publish (publishing.MaxPayloadExceeded, Some cause.Dropped))) b is = absurd is
published_over limit joined head subject payload old w
    (Err (refused.Publish (publishing.MaxPayloadExceeded, Some cause.NoInfo))) b is = absurd is
published_over limit joined head subject payload old w
    (Err (refused.Publish (publishing.MaxPayloadExceeded, Some (cause.Unexpected x)))) b is = absurd is
published_over limit joined head subject payload old w
    (Err (refused.Publish (publishing.MaxPayloadExceeded, Some cause.Fault))) b is = absurd is
published_over limit joined head subject payload old w
    (Err (refused.Publish (publishing.MaxPayloadExceeded, Some cause.ReadFault))) b is = absurd is
published_over limit joined head subject payload old w
    (Err (refused.Publish (publishing.MaxPayloadExceeded, Some cause.NoPong))) b is = absurd is
published_over limit joined head subject payload old w
    (Err (refused.Publish (publishing.MaxPayloadExceeded, Some cause.NoAddress))) b is = absurd is
published_over limit joined head subject payload old w
    (Err (refused.Publish (publishing.MaxPayloadExceeded, Some cause.AllFailed))) b is = absurd is
published_over limit joined head subject payload old w
    (Err (refused.Publish (publishing.MaxPayloadExceeded, Some (cause.Server x)))) b is = absurd is
published_over limit joined head subject payload old w
    (Err (refused.Publish (publishing.MaxPayloadExceeded, Some (cause.Auth x)))) b is = absurd is
published_over limit joined head subject payload old w
    (Err (refused.Publish (publishing.MaxPayloadExceeded, Some (cause.Addr x)))) b is = absurd is
published_over limit joined head subject payload old w
    (Err (refused.Publish (publishing.MaxPayloadExceeded, Some (cause.Io x)))) b is = absurd is
published_over limit joined head subject payload old w
    (Err (refused.Publish (publishing.MaxPayloadExceeded, Some cause.NoMemory))) b is = absurd is
published_over limit joined head subject payload old w (Err (refused.Publish (publishing.Send, source))) b is =
    absurd is
published_over limit joined head subject payload old w (Err (refused.Publish (publishing.Full, source))) b is =
    absurd is
published_over limit joined head subject payload old w (Err (refused.Publish (publishing.NoMemory, source))) b is =
    absurd is
published_over limit joined head subject payload old w (Err (refused.Subscribe e)) b is = absurd is
published_over limit joined head subject payload old w (Err (refused.Connect e)) b is = absurd is
published_over limit joined head subject payload old w (Err refused.LinkEnded) b (inl down) =
    inl (b.downs (sym (ap (λ (s : Seen). s.parts.link.is_up) b.is) ∙ down))
published_over limit joined head subject payload old w (Err refused.LinkEnded) b (inr failed) = inr failed
published_over limit joined head subject payload old w (Err refused.NoMemory) b is = tt

-- ---- a command, by its last ended link

pub published_last : (addr : List ℕ) (info : ServerInfo) (rest subject payload : List ℕ) (r : ReadTold) (w0 w : WriteTold)
    (a m b : World) → (to : DialedTo addr info rest r w0 a m) → IsBack r w m b
    → PublishedOver (limit_with info.max_payload rest) rest to.2.up.wrote subject payload (Ok tt) w
    → Shows addr (WasPublished subject payload) a b
published_last addr info rest subject payload r w0 w a m b to back is =
    ends_shown addr (WasPublished subject payload) info rest r r w0 w a m b to back
    (λ pieces bytes gave took. was_published info rest subject payload r w0 w pieces bytes to.2.up is gave took)

pub why_not_published : (addr : List ℕ) (info : ServerInfo) (rest subject payload : List ℕ) (r : ReadTold)
    (w0 w : WriteTold) (a m b : World)
    (e : LiveError) → (up : IsUp OffersNothing false false None false info rest r w0) → Onward a m → IsBack r w m b
    → PublishedOver (limit_with info.max_payload rest) rest up.wrote subject payload (Err e) w
    → WhyNotPublished addr subject payload a e b
why_not_published addr info rest subject payload r w0 w a m b
    (refused.Publish (publishing.InvalidSubject, source)) up onward back is = is
why_not_published addr info rest subject payload r w0 w a m b
    (refused.Publish (publishing.MaxPayloadExceeded, Some (cause.Payload most size))) up onward back is =
    too_large info rest payload most size r w0 w m b up back is.0 is.1 (subst (λ (l : ℕ). l < size) (sym is.0) is.2)
why_not_published addr info rest subject payload r w0 w a m b
    (refused.Publish (publishing.MaxPayloadExceeded, None)) up onward back is = absurd is
why_not_published addr info rest subject payload r w0 w a m b
    (refused.Publish (publishing.MaxPayloadExceeded, Some cause.Closed)) up onward back is = absurd is
why_not_published addr info rest subject payload r w0 w a m b
    (refused.Publish (publishing.MaxPayloadExceeded, Some cause.NoNumber)) up onward back is = absurd is
why_not_published addr info rest subject payload r w0 w a m b
    (refused.Publish (publishing.MaxPayloadExceeded, Some cause.NoPart)) up onward back is = absurd is
why_not_published addr info rest subject payload r w0 w a m b
    (refused.Publish (publishing.MaxPayloadExceeded, Some cause.Format)) up onward back is = absurd is
why_not_published addr info rest subject payload r w0 w a m b
    (refused.Publish (publishing.MaxPayloadExceeded, Some cause.NoResponders)) up onward back is = absurd is
why_not_published addr info rest subject payload r w0 w a m b
    (refused.Publish (publishing.MaxPayloadExceeded, Some cause.BrokenPipe)) up onward back is = absurd is
why_not_published addr info rest subject payload r w0 w a m b
    (refused.Publish (publishing.MaxPayloadExceeded, Some cause.Dropped)) up onward back is = absurd is
why_not_published addr info rest subject payload r w0 w a m b
    (refused.Publish (publishing.MaxPayloadExceeded, Some cause.NoInfo)) up onward back is = absurd is
why_not_published addr info rest subject payload r w0 w a m b
    (refused.Publish (publishing.MaxPayloadExceeded, Some (cause.Unexpected x))) up onward back is = absurd is
why_not_published addr info rest subject payload r w0 w a m b
    (refused.Publish (publishing.MaxPayloadExceeded, Some cause.Fault)) up onward back is = absurd is
why_not_published addr info rest subject payload r w0 w a m b
    (refused.Publish (publishing.MaxPayloadExceeded, Some cause.ReadFault)) up onward back is = absurd is
why_not_published addr info rest subject payload r w0 w a m b
    (refused.Publish (publishing.MaxPayloadExceeded, Some cause.NoPong)) up onward back is = absurd is
why_not_published addr info rest subject payload r w0 w a m b
    (refused.Publish (publishing.MaxPayloadExceeded, Some cause.NoAddress)) up onward back is = absurd is
why_not_published addr info rest subject payload r w0 w a m b
    (refused.Publish (publishing.MaxPayloadExceeded, Some cause.AllFailed)) up onward back is = absurd is
why_not_published addr info rest subject payload r w0 w a m b
    (refused.Publish (publishing.MaxPayloadExceeded, Some (cause.Server x))) up onward back is = absurd is
why_not_published addr info rest subject payload r w0 w a m b
    (refused.Publish (publishing.MaxPayloadExceeded, Some (cause.Auth x))) up onward back is = absurd is
why_not_published addr info rest subject payload r w0 w a m b
    (refused.Publish (publishing.MaxPayloadExceeded, Some (cause.Addr x))) up onward back is = absurd is
why_not_published addr info rest subject payload r w0 w a m b
    (refused.Publish (publishing.MaxPayloadExceeded, Some (cause.Io x))) up onward back is = absurd is
why_not_published addr info rest subject payload r w0 w a m b
    (refused.Publish (publishing.MaxPayloadExceeded, Some cause.NoMemory)) up onward back is = absurd is
why_not_published addr info rest subject payload r w0 w a m b
    (refused.Publish (publishing.Send, source)) up onward back is = absurd is
why_not_published addr info rest subject payload r w0 w a m b
    (refused.Publish (publishing.Full, source)) up onward back is = absurd is
why_not_published addr info rest subject payload r w0 w a m b
    (refused.Publish (publishing.NoMemory, source)) up onward back is = absurd is
why_not_published addr info rest subject payload r w0 w a m b (refused.Subscribe e) up onward back is = absurd is
why_not_published addr info rest subject payload r w0 w a m b (refused.Connect e) up onward back is = absurd is
why_not_published addr info rest subject payload r w0 w a m b refused.LinkEnded up onward back (inl fault) =
    inr (fault_in_rest info rest r w0 w m b up back fault)
why_not_published addr info rest subject payload r w0 w a m b refused.LinkEnded up onward back (inr failed) =
    inl (broke r w a m b onward back (omega (arith, failed)))
why_not_published addr info rest subject payload r w0 w a m b refused.NoMemory up onward back is = tt

pub received_last : (addr : List ℕ) (info : ServerInfo) (rest subject : List ℕ) (n : ℕ) (text : Vec ℕ) (r0 r : ReadTold)
    (w0 w : WriteTold) (a m b : World) → (to : DialedTo addr info rest r0 w0 a m) → IsBack r w m b
    → ReceivedOver rest to.2.up.wrote subject n (Ok text) r0 r w
    → Shows addr (WasReceived subject n text.items) a b
received_last addr info rest subject n text r0 r w0 w a m b to back is =
    ends_shown addr (WasReceived subject n text.items) info rest r0 r w0 w a m b to back
    (λ pieces bytes gave took.
    was_received info rest subject text.items n r0 r w0 w pieces bytes to.2.up is.0 is.1 is.2 is.3.0 is.3.1 gave took)

over_later : (info : ServerInfo) (rest bytes : List ℕ) (r0 r : ReadTold) (w0 w : WriteTold) (a m b : World)
    → IsUp OffersNothing false false None false info rest r0 w0 → Onward a m → IsBack r w m b → GaveLater bytes r0 r
    → IsOver (rest ++ bytes) r w
    → LinkBrokeOrEnded a b ⊎ FaultLater b
over_later info rest bytes r0 r w0 w a m b up onward back gave (inl failed) =
    inl (broke_or_ended r w a m b onward back failed)
over_later info rest bytes r0 r w0 w a m b up onward back gave (inr (inl ended)) =
    inl (link_ended r w a m b onward back ended)
over_later info rest bytes r0 r w0 w a m b up onward back gave (inr (inr fault)) =
    inr (fault_later info rest bytes r0 r w0 w m b up back gave fault)

pub why_not_received : (addr : List ℕ) (info : ServerInfo) (rest subject : List ℕ) (n : ℕ) (r0 r : ReadTold)
    (w0 w : WriteTold) (a m b : World)
    (e : LiveError) → 1 ≤ n → (up : IsUp OffersNothing false false None false info rest r0 w0) → Onward a m → IsBack r w m b
    → ReceivedOver rest up.wrote subject n (Err e) r0 r w → WhyNotReceived addr subject n a e b
why_not_received addr info rest subject n r0 r w0 w a m b (refused.Subscribe (subscribing.InvalidSubject, source))
    some up onward back is = is
why_not_received addr info rest subject n r0 r w0 w a m b (refused.Subscribe (subscribing.InvalidQueueName, source))
    some up onward back is = absurd is
why_not_received addr info rest subject n r0 r w0 w a m b (refused.Subscribe (subscribing.Other, source)) some up
    onward back is = absurd is
why_not_received addr info rest subject n r0 r w0 w a m b (refused.Subscribe (subscribing.Full, source)) some up
    onward back is = absurd is
why_not_received addr info rest subject n r0 r w0 w a m b (refused.Subscribe (subscribing.NoMemory, source)) some up
    onward back is = absurd is
why_not_received addr info rest subject n r0 r w0 w a m b (refused.Publish e) some up onward back is = absurd is
why_not_received addr info rest subject n r0 r w0 w a m b (refused.Connect e) some up onward back is = absurd is
why_not_received addr info rest subject n r0 r w0 w a m b refused.LinkEnded some up onward back (inl early) =
    let gave = subst (λ (x : ReadTold). GaveLater [] r0 x) (sym early.0) (gave_nothing r0) in
    let all : operations (rest ++ []) ≡ operations rest ++ [] =
    ap operations (append-nil rest) ∙ sym (append-nil (operations rest)) in (
      inr (fault_later info rest [] r0 r w0 w m b up back gave (ap ends_in_fault (append-nil rest) ∙ early.1)),
      fewer_came info rest [] [] n r0 r w0 w m b up back gave all (omega (arith, some)),
    )
why_not_received addr info rest subject n r0 r w0 w a m b refused.LinkEnded some up onward back (inr late) = (
  over_later info rest late.0.bytes r0 r w0 w a m b up onward back late.0.gave late.2,
  fewer_came info rest late.0.bytes late.0.since n r0 r w0 w m b up back late.0.gave late.0.all late.1,
)
why_not_received addr info rest subject n r0 r w0 w a m b refused.NoMemory some up onward back is = tt

-- ---- by clause

pub published_clause : (addr : List ℕ) (info : ServerInfo) (rest subject payload : List ℕ) (r : ReadTold) (w0 w : WriteTold)
    (a m b : World)
    (result : Result (Unit {0}) LiveError) → (to : DialedTo addr info rest r w0 a m) → IsBack r w m b
    → PublishedOver (limit_with info.max_payload rest) rest to.2.up.wrote subject payload result w
    → OnOk result (Shows addr (WasPublished subject payload) a b)
published_clause addr info rest subject payload r w0 w a m b (Ok done) to back is =
    published_last addr info rest subject payload r w0 w a m b to back is
published_clause addr info rest subject payload r w0 w a m b (Err e) to back is = tt

pub not_published_clause : (addr : List ℕ) (info : ServerInfo) (rest subject payload : List ℕ) (r : ReadTold)
    (w0 w : WriteTold) (a m b : World)
    (result : Result (Unit {0}) LiveError) → (up : IsUp OffersNothing false false None false info rest r w0) → Onward a m
    → IsBack r w m b
    → PublishedOver (limit_with info.max_payload rest) rest up.wrote subject payload result w
    → IfErr result (λ e. WhyNotPublished addr subject payload a e b)
not_published_clause addr info rest subject payload r w0 w a m b (Ok done) up onward back is = tt
not_published_clause addr info rest subject payload r w0 w a m b (Err e) up onward back is =
    why_not_published addr info rest subject payload r w0 w a m b e up onward back is

pub received_clause : (addr : List ℕ) (info : ServerInfo) (rest subject : List ℕ) (n : ℕ) (r0 r : ReadTold)
    (w0 w : WriteTold) (a m b : World)
    (result : Result (Vec ℕ) LiveError) → (to : DialedTo addr info rest r0 w0 a m) → IsBack r w m b
    → ReceivedOver rest to.2.up.wrote subject n result r0 r w
    → IfOk result (λ text. Shows addr (WasReceived subject n text.items) a b)
received_clause addr info rest subject n r0 r w0 w a m b (Ok text) to back is =
    received_last addr info rest subject n text r0 r w0 w a m b to back is
received_clause addr info rest subject n r0 r w0 w a m b (Err e) to back is = tt

pub not_received_clause : (addr : List ℕ) (info : ServerInfo) (rest subject : List ℕ) (n : ℕ) (r0 r : ReadTold)
    (w0 w : WriteTold) (a m b : World)
    (result : Result (Vec ℕ) LiveError) → 1 ≤ n → (up : IsUp OffersNothing false false None false info rest r0 w0) → Onward a m
    → IsBack r w m b
    → ReceivedOver rest up.wrote subject n result r0 r w → IfErr result (λ e. WhyNotReceived addr subject n a e b)
not_received_clause addr info rest subject n r0 r w0 w a m b (Ok text) some up onward back is = tt
not_received_clause addr info rest subject n r0 r w0 w a m b (Err e) some up onward back is =
    why_not_received addr info rest subject n r0 r w0 w a m b e some up onward back is

-- ---- receiving on a session that has begun

-- the subscription was received on
pub receives_all : (joined head subject : List ℕ) (n : ℕ) (seen : Seen) (r0 r : ReadTold) (w : WriteTold)
    (result : Result (Vec ℕ) LiveError)
    → ReceiveEnds subject joined (operations joined) n head result seen r0 r w
    → ReceivesAll joined head subject n result seen r0 r w
receives_all joined head subject n seen r0 r w (Ok text) ends = ends
receives_all joined head subject n seen r0 r w (Err refused.LinkEnded) ends = inr ends
receives_all joined head subject n seen r0 r w (Err refused.NoMemory) ends = tt
receives_all joined head subject n seen r0 r w (Err (refused.Connect e)) ends = absurd ends
receives_all joined head subject n seen r0 r w (Err (refused.Publish e)) ends = absurd ends
receives_all joined head subject n seen r0 r w (Err (refused.Subscribe e)) ends = absurd ends

-- the link was over before it could be
pub receives_over : (most : ℕ) (joined head subject : List ℕ) (n : ℕ) (old new : Seen) (r : ReadTold) (w : WriteTold)
    → HasBegun most joined old → old.parts.link.is_up ≡ false
    → ReceivesAll joined head subject n (Err refused.LinkEnded) new r r w
receives_over most joined head subject n old new r w b down =
    inl (refl, b.downs (sym (ap (λ (s : Seen). s.parts.link.is_up) b.is) ∙ down))

-- the subscribe was refused
pub receives_err : (joined head subject : List ℕ) (n : ℕ) (old new : Seen) (r : ReadTold) (w : WriteTold)
    (e : LiveError)
    → Subscribes joined subject (Err e) old new → ReceivesAll joined head subject n (Err e) new r r w
receives_err joined head subject n old new r w (refused.Subscribe (subscribing.InvalidSubject, source)) is = is
receives_err joined head subject n old new r w (refused.Subscribe (subscribing.InvalidQueueName, source)) is =
    absurd is
receives_err joined head subject n old new r w (refused.Subscribe (subscribing.Other, source)) is = absurd is
receives_err joined head subject n old new r w (refused.Subscribe (subscribing.Full, source)) is = absurd is
receives_err joined head subject n old new r w (refused.Subscribe (subscribing.NoMemory, source)) is = absurd is
receives_err joined head subject n old new r w (refused.Publish e) is = absurd is
receives_err joined head subject n old new r w (refused.Connect e) is = absurd is
receives_err joined head subject n old new r w refused.LinkEnded is = absurd is
receives_err joined head subject n old new r w refused.NoMemory is = tt
