-- What the last ended link shows, once a link is handed back.
use Rattle.std.proofs.Common.{◌≡◌, refl, ◌∙◌, sym, ap, subst, inl, inr, ◌⊎◌, ℕ, zero, suc, ◌+◌, ◌<◌, ◌≤◌, arith, true, false, List, [], ◌∷◌, ◌++◌, length, drop, append_assoc, append-nil, drop_of_length-le, Option, Some, None, IfSome, option_map, flat_map, take, Result, Ok}
use Rattle.std.proofs.lemmas.List.{drop-append-le}
use Rattle.std.specs.List.{concat}
use Rattle.nats_info.specs.declared.info.ServerInfo.{ServerInfo}
use Rattle.nats_pool.specs.Auths.{AuthValue}
use Rattle.nats_outside.specs.Counts.{Rose}
use Rattle.nats_outside.specs.Told.{Seen, ReadTold, WriteTold, ended_more, word_of}
use Rattle.nats_outside.specs.declared.dialer.DialWord.TheVariants as word
use Rattle.nats_message.specs.declared.op.ClientOp.TheVariants as client
use Rattle.nats_commands.specs.Commands.{command_text}
use Rattle.nats_lines.specs.Operations.{Operation, operations}
use Rattle.nats_handshake.specs.Opened.{Opened, opened, opened_in}
use Rattle.nats_handshake.specs.Shaking.{opening, wants_tls}
use Rattle.nats_handshake.proofs.Opening.{with_later, opened_later, succeeds_opened}
use Rattle.nats_dial.specs.Causes.{Onward, Grew, AllBack}
use Rattle.nats_dial.specs.Lines.{Took}
use Rattle.nats_dial.proofs.Returning.{out_back}
use Rattle.nats_dial.specs.Tries.{IsUp}
use Rattle.nats_message_text.specs.Printed.{message_line}
use Rattle.nats_live.specs.Back.{IsBack}
use Rattle.nats_live.specs.Causes.{OffersNothing, DialedTo, Shows, LinkBroke, LinkBrokeOrEnded, FaultInRest, FaultLater, FewerCame, TooLarge}
use Rattle.nats_live.specs.Ended.{EndedLink, LastLink, LastSince, IsOpenedBy, after, before, behind_handshake, messages, pongs, limit_with, limit_of, ends_in_fault, nothing, handshake_text, WasPublished, WasReceived}
use Rattle.nats_live.specs.Flow.{GaveLater, CameSoFar, published_text, sub_text, subscribed_text}

-- ---- the link as it opened

-- what its pieces say of its handshake, and of what came later
pub record OpenedAs (info : ServerInfo) (said rest bytes : List ℕ) (pieces : List (List ℕ)) : Type 0 where
  pub shaken : Opened
  pub opens : opened pieces ≡ Some shaken
  pub plain : wants_tls false false shaken.info ≡ false
  pub info_is : shaken.info ≡ info
  pub said_is : shaken.said ≡ said
  pub rest_is : shaken.rest ≡ rest
  pub bytes_are : concat shaken.later ≡ bytes

no_some : {A B : Type 0} (x : A) → None ≡ Some x → B
no_some x is = cc

opened_known : (info : ServerInfo) (rest said text bytes : List ℕ) (first : Option (List (List ℕ)))
    (later pieces : List (List ℕ))
    → IfSome first (λ (ps : List (List ℕ)). opened ps ≡ opened_in text [])
    → opened_in text [] ≡ Some (record { info = info; said = said; rest = rest; later = [] })
    → Some pieces ≡ option_map (λ (ps : List (List ℕ)). ps ++ later) first → concat later ≡ bytes
    → wants_tls false false info ≡ false → OpenedAs info said rest bytes pieces
opened_known info rest said text bytes None later pieces opens shown is joins plain = no_some pieces (sym is)
opened_known info rest said text bytes (Some ps) later pieces opens shown is joins plain =
    let o : Opened = record { info = info; said = said; rest = rest; later = [] } in
    let same : pieces ≡ ps ++ later = cc in
    record {
      shaken = with_later later o;
      opens = ap opened same ∙ opened_later [] ps later o (opens ∙ shown);
      plain = plain;
      info_is = refl;
      said_is = refl;
      rest_is = refl;
      bytes_are = joins;
    }

pub opened_as : (info : ServerInfo) (rest bytes : List ℕ) (r0 r : ReadTold) (w : WriteTold)
    → (up : IsUp OffersNothing false false None false info rest r0 w) → GaveLater bytes r0 r → (pieces : List (List ℕ))
    → r.pieces ≡ Some pieces
    → OpenedAs info up.said rest bytes pieces
opened_as info rest bytes r0 r w up gave pieces is =
    opened_known info rest up.said up.text bytes r0.pieces gave.later pieces up.opens
    (succeeds_opened info rest up.said up.text [] up.succeeds) (sym is ∙ gave.pieces) gave.joined up.plain

-- what the handshake wrote
pub head_is : (info : ServerInfo) (rest bytes : List ℕ) (r0 : ReadTold) (w : WriteTold) (pieces : List (List ℕ))
    → (up : IsUp OffersNothing false false None false info rest r0 w) → (o : OpenedAs info up.said rest bytes pieces)
    → up.wrote ≡ handshake_text o.shaken
head_is info rest bytes r0 w pieces up o =
    let auth : up.offers.0 ≡ nothing = ok_same up.offers.0 (Ok up.offers.0) up.offers.1 refl in
    up.offers.2
    ∙ (ap (λ (a : AuthValue). opening None false a ++ up.said) auth
    ∙ ap (λ (s : List ℕ). opening None false nothing ++ s) (sym o.said_is))
  where
    ok_same : (x : AuthValue) (r : Result AuthValue (List ℕ)) → r ≡ Ok nothing → r ≡ Ok x → x ≡ nothing
    ok_same x r is here = cc

-- nothing came later
pub gave_nothing : (r : ReadTold) → GaveLater [] r r
gave_nothing r = record { later = []; pieces = by r.pieces; joined = refl }
  where
    by : (known : Option (List (List ℕ))) → known ≡ option_map (λ (ps : List (List ℕ)). ps ++ []) known
    by None = refl
    by (Some ps) = ap Some (sym (append-nil ps))

-- ---- the last ended link

ends_known : (Is : EndedLink → Type 0) (pieces : Option (List (List ℕ))) (took : Option (List ℕ))
    (links : Option (List EndedLink))
    → ((ps : List (List ℕ)) (bytes : List ℕ) → pieces ≡ Some ps → took ≡ Some bytes → Is (ps, bytes))
    → IfSome (ended_more pieces took links) (LastLink Is)
ends_known Is None took links shows = tt
ends_known Is (Some ps) None links shows = tt
ends_known Is (Some ps) (Some bytes) None shows = tt
ends_known Is (Some ps) (Some bytes) (Some links) shows =
    record { earlier = links; link = (ps, bytes); last = refl; shows = shows ps bytes refl refl }

pub ends_last : (Is : EndedLink → Type 0) (r : ReadTold) (w : WriteTold) (a b : Seen) → IsBack r w a b
    → ((ps : List (List ℕ)) (bytes : List ℕ) → r.pieces ≡ Some ps → w.taken ≡ Some bytes → Is (ps, bytes))
    → IfSome b.dialer.ended (LastLink Is)
ends_last Is r w a b back shows =
    subst (λ (s : Seen). IfSome s.dialer.ended (LastLink Is)) (sym back.back)
    (ends_known Is r.pieces back.shut.taken a.dialer.ended
    (λ ps bytes gave took. shows ps bytes gave (sym back.taken ∙ took)))

since_known : (Is : EndedLink → Type 0) (pieces : Option (List (List ℕ))) (took : Option (List ℕ))
    (before links : Option (List EndedLink)) → Grew before links
    → ((ps : List (List ℕ)) (bytes : List ℕ) → pieces ≡ Some ps → took ≡ Some bytes → Is (ps, bytes))
    → IfSome (ended_more pieces took links) (LastSince before Is)
since_known Is None took before links grew shows = tt
since_known Is (Some ps) None before links grew shows = tt
since_known Is (Some ps) (Some bytes) before None grew shows = tt
since_known Is (Some ps) (Some bytes) before (Some links) (old, more, known, joined) shows = record {
  earlier = old;
  more = more;
  link = (ps, bytes);
  known = known;
  last = ap (λ (l : List EndedLink). l ++ (ps, bytes) ∷ []) joined;
  shows = shows ps bytes refl refl;
}

-- a link of this call was handed back, and shows that
pub ends_shown : (addr : List ℕ) (Is : EndedLink → Type 0) (info : ServerInfo) (rest : List ℕ) (r0 r : ReadTold)
    (w0 w : WriteTold) (a m b : Seen) → DialedTo addr info rest r0 w0 a m → IsBack r w m b
    → ((ps : List (List ℕ)) (bytes : List ℕ) → r.pieces ≡ Some ps → w.taken ≡ Some bytes → Is (ps, bytes))
    → Shows addr Is a b
ends_shown addr Is info rest r0 r w0 w a m b (server, spelled, linked) back shows = record {
  server = server;
  spelled = spelled;
  no_tls = linked.no_tls;
  no_socket = linked.no_socket;
  dialed = subst (λ (s : Seen). Rose a.dialer.dials s.dialer.dials) (sym back.back) linked.dialed;
  was_shut = ap (λ (s : Seen). s.dialer.was_shut) back.back ∙ back.is_shut;
  ended = subst (λ (s : Seen). IfSome s.dialer.ended (LastSince a.dialer.ended Is)) (sym back.back)
      (since_known Is r.pieces back.shut.taken a.dialer.ended m.dialer.ended linked.out.ended
      (λ ps bytes gave took. shows ps bytes gave (sym back.taken ∙ took)));
}

-- as many links were handed back as came
pub all_back : (addr : List ℕ) (info : ServerInfo) (rest : List ℕ) (r0 r : ReadTold) (w0 w : WriteTold) (a m b : Seen)
    → DialedTo addr info rest r0 w0 a m → IsBack r w m b → AllBack a b
all_back addr info rest r0 r w0 w a m b (server, spelled, linked) back =
    out_back a m b r.pieces back.shut.taken linked.out (ap (λ (s : Seen). s.dialer.links) back.back)
    (ap (λ (s : Seen). s.dialer.backs) back.back) (ap (λ (s : Seen). s.dialer.ended) back.back)

-- ---- counts and words

word_failed : (f g e : ℕ) → 1 ≤ f + g → word_of f g e ≡ word.Failed
word_failed zero zero e some = absurd (omega (arith, some))
word_failed zero (suc g) e some = refl
word_failed (suc f) g e some = refl

word_over : (f g e : ℕ) → 1 ≤ e → (word_of f g e ≡ word.Failed) ⊎ (word_of f g e ≡ word.Ended)
word_over zero zero zero some = absurd (omega (arith, some))
word_over zero zero (suc e) some = inr refl
word_over zero (suc g) e some = inl refl
word_over (suc f) g e some = inl refl

-- a half failed
pub broke : (r : ReadTold) (w : WriteTold) (a m b : Seen) → Onward a m → IsBack r w m b → 1 ≤ r.faults + w.faults
    → LinkBroke a b
broke r w a m b onward back some =
    let more : 1 ≤ r.faults + back.shut.faults = omega (arith, some, back.faults) in
    subst (LinkBroke a) (sym back.back)
    (inl (omega (arith, onward.dial_faults, more)), word_failed r.faults back.shut.faults r.ends more)

pub broke_or_ended : (r : ReadTold) (w : WriteTold) (a m b : Seen) → Onward a m → IsBack r w m b
    → 1 ≤ r.faults + w.faults
    → LinkBrokeOrEnded a b
broke_or_ended r w a m b onward back some =
    let is = broke r w a m b onward back some in (is.0, inl is.1)

-- the link ended
pub link_ended : (r : ReadTold) (w : WriteTold) (a m b : Seen) → Onward a m → IsBack r w m b → 1 ≤ r.ends
    → LinkBrokeOrEnded a b
link_ended r w a m b onward back some =
    subst (LinkBrokeOrEnded a) (sym back.back)
    (inr (omega (arith, onward.ends, some)), word_over r.faults back.shut.faults r.ends some)

-- no count fell
pub onward_back : (r : ReadTold) (w : WriteTold) (a m b : Seen) → Onward a m → IsBack r w m b → Onward a b
onward_back r w a m b onward back =
    subst (Onward a) (sym back.back) (record {
      dial_faults = omega (arith, onward.dial_faults);
      ends = omega (arith, onward.ends);
      dials = onward.dials;
      ask_faults = onward.ask_faults;
      empties = onward.empties;
      askings = onward.askings;
      given = onward.given;
      starts = onward.starts;
    })

-- ---- lists

pub drop_all_of : {A : Type 0} (xs ys : List A) → drop (length xs) (xs ++ ys) ≡ ys
drop_all_of xs ys =
    drop-append-le (length xs) xs ys (omega arith)
    ∙ ap (λ l. l ++ ys) (drop_of_length-le xs (omega arith))

pub append_same : {A : Type 0} (xs ys zs : List A) → xs ++ ys ≡ xs ++ zs → ys ≡ zs
append_same xs ys zs is = sym (drop_all_of xs ys) ∙ (ap (drop (length xs)) is ∙ drop_all_of xs zs)

-- ---- a message that was published

took_is : (text bytes : List ℕ) (known : Option (List ℕ)) → IfSome known (λ (b : List ℕ). b ≡ text)
    → known ≡ Some bytes → bytes ≡ text
took_is text bytes None took is = no_some bytes is
took_is text bytes (Some b) took is = let same : b ≡ bytes = cc in sym same ∙ took

pub was_published : (info : ServerInfo) (rest subject payload : List ℕ) (r0 : ReadTold) (w0 w : WriteTold)
    (pieces : List (List ℕ)) (bytes : List ℕ)
    → (up : IsUp OffersNothing false false None false info rest r0 w0) → Took (up.wrote ++ published_text rest subject payload) w
    → r0.pieces ≡ Some pieces → w.taken ≡ Some bytes → WasPublished subject payload (pieces, bytes)
was_published info rest subject payload r0 w0 w pieces bytes up took gave wrote =
    let o = opened_as info rest [] r0 r0 w0 up (gave_nothing r0) pieces gave in
    record {
      shaken = o.shaken;
      opens = (o.opens, o.plain);
      took = took_is (up.wrote ++ published_text rest subject payload) bytes w.taken took wrote
          ∙ (ap (λ (h : List ℕ). h ++ published_text rest subject payload) (head_is info rest [] r0 w0 pieces up o)
          ∙ (ap (λ (t : List ℕ). handshake_text o.shaken ++ published_text t subject payload) (sym o.rest_is)
          ∙ sym (append_assoc (handshake_text o.shaken) (pongs (before o.shaken))
          (command_text (client.Publish subject payload None None)))));
    }

-- what came with the handshake ends in no operation
pub fault_in_rest : (info : ServerInfo) (rest : List ℕ) (r0 : ReadTold) (w0 w : WriteTold) (a b : Seen)
    → IsUp OffersNothing false false None false info rest r0 w0 → IsBack r0 w a b → ends_in_fault rest ≡ true → FaultInRest b
fault_in_rest info rest r0 w0 w a b up back fault =
    ends_last (λ (link : EndedLink). (o : Opened) × IsOpenedBy link o × (ends_in_fault o.rest ≡ true)) r0 w a b
    back
    (λ pieces bytes gave wrote.
    let o = opened_as info rest [] r0 r0 w0 up (gave_nothing r0) pieces gave in
    (o.shaken, (o.opens, o.plain), ap ends_in_fault o.rest_is ∙ fault))

-- the payload is larger than the server takes
pub too_large : (info : ServerInfo) (rest payload : List ℕ) (most size : ℕ) (r0 : ReadTold) (w0 w : WriteTold)
    (a b : Seen)
    → IsUp OffersNothing false false None false info rest r0 w0 → IsBack r0 w a b → most ≡ limit_with info.max_payload rest
    → size ≡ length payload → most < size
    → TooLarge most size payload b
too_large info rest payload most size r0 w0 w a b up back most_is size_is less = (
  size_is,
  less,
  ends_last (λ (link : EndedLink). (o : Opened) × IsOpenedBy link o × (limit_of o ≡ most)) r0 w a b back
      (λ pieces bytes gave wrote.
      let o = opened_as info rest [] r0 r0 w0 up (gave_nothing r0) pieces gave in (
        o.shaken,
        (o.opens, o.plain),
        ap (λ (i : ServerInfo). limit_with i.max_payload o.shaken.rest) o.info_is
            ∙ (ap (limit_with info.max_payload) o.rest_is ∙ sym most_is),
      )),
)

-- ---- messages that were received

-- the operations that came later
after_is : (rest bytes : List ℕ) (since : List Operation) (o : Opened) → o.rest ≡ rest → concat o.later ≡ bytes
    → operations (rest ++ bytes) ≡ operations rest ++ since → after o ≡ since
after_is rest bytes since o rest_is bytes_are all =
    ap (λ (r : List ℕ). drop (length (operations r)) (operations (r ++ concat o.later))) rest_is
    ∙ (ap (λ (b : List ℕ). drop (length (operations rest)) (operations (rest ++ b))) bytes_are
    ∙ (ap (drop (length (operations rest))) all ∙ drop_all_of (operations rest) since))

pub was_received : (info : ServerInfo) (rest subject text : List ℕ) (n : ℕ) (r0 r : ReadTold) (w0 w : WriteTold)
    (pieces : List (List ℕ)) (bytes : List ℕ)
    → (up : IsUp OffersNothing false false None false info rest r0 w0) → (far : CameSoFar subject rest up.wrote r0 r w)
    → n ≤ length (messages 1 far.since) → text ≡ flat_map message_line (take n (messages 1 far.since))
    → (answered : List ℕ) → far.took ≡ subscribed_text subject (operations rest) [] ++ answered
    → r.pieces ≡ Some pieces → w.taken ≡ Some bytes → WasReceived subject n text (pieces, bytes)
was_received info rest subject text n r0 r w0 w pieces bytes up far enough printed answered took gave wrote =
    let o = opened_as info rest far.bytes r0 r w0 up far.gave pieces gave in
    let ops = operations rest in
    let since_is = after_is rest far.bytes far.since o.shaken o.rest_is o.bytes_are far.all in
    let shape : subscribed_text subject ops [] ++ answered ≡ pongs ops ++ (sub_text subject ++ answered) =
    ap (λ (t : List ℕ). t ++ answered) (append-nil (pongs ops ++ sub_text subject))
    ∙ append_assoc (pongs ops) (sub_text subject) answered in
    let both : pongs ops ++ (sub_text subject ++ (answered ++ far.left)) ≡ pongs ops ++
    (sub_text subject ++ pongs far.since) =
    sym (append_assoc (pongs ops) (sub_text subject ++ answered) far.left
    ∙ ap (λ (t : List ℕ). pongs ops ++ t) (append_assoc (sub_text subject) answered far.left))
    ∙ (ap (λ (t : List ℕ). t ++ far.left) (sym (took ∙ shape))
    ∙ (far.text ∙ append_assoc (pongs ops) (sub_text subject) (pongs far.since))) in
    record {
      shaken = o.shaken;
      opens = (o.opens, o.plain);
      enough = subst (λ (ops : List Operation). n ≤ length (messages 1 ops)) (sym since_is) enough;
      printed = printed ∙ ap (λ (ops : List Operation). flat_map message_line (take n (messages 1 ops)))
          (sym since_is);
      answered = answered;
      left = far.left;
      answers = append_same (sub_text subject) (answered ++ far.left) (pongs far.since)
          (append_same (pongs ops) (sub_text subject ++ (answered ++ far.left))
          (sub_text subject ++ pongs far.since) both)
          ∙ ap pongs (sym since_is);
      took = took_is (up.wrote ++ far.took) bytes w.taken far.wrote wrote
          ∙ (ap (λ (h : List ℕ). h ++ far.took) (head_is info rest far.bytes r0 w0 pieces up o)
          ∙ (ap (λ (t : List ℕ). handshake_text o.shaken ++ t) (took ∙ shape)
          ∙ (ap (λ (r : List ℕ). handshake_text o.shaken ++ (pongs (operations r) ++ (sub_text subject ++ answered)))
          (sym o.rest_is)
          ∙ sym (append_assoc (handshake_text o.shaken ++ pongs (before o.shaken)) (sub_text subject) answered
          ∙ append_assoc (handshake_text o.shaken) (pongs (before o.shaken)) (sub_text subject ++ answered)))));
    }

-- fewer came
pub fewer_came : (info : ServerInfo) (rest bytes : List ℕ) (since : List Operation) (n : ℕ) (r0 r : ReadTold)
    (w0 w : WriteTold) (a b : Seen)
    → IsUp OffersNothing false false None false info rest r0 w0 → IsBack r w a b → GaveLater bytes r0 r
    → operations (rest ++ bytes) ≡ operations rest ++ since → length (messages 1 since) < n → FewerCame n b
fewer_came info rest bytes since n r0 r w0 w a b up back gave all less =
    ends_last (λ (link : EndedLink). (o : Opened) × IsOpenedBy link o × (length (messages 1 (after o)) < n)) r
    w a b back
    (λ pieces took given wrote.
    let o = opened_as info rest bytes r0 r w0 up gave pieces given in (
      o.shaken,
      (o.opens, o.plain),
      subst (λ (ops : List Operation). length (messages 1 ops) < n)
          (sym (after_is rest bytes since o.shaken o.rest_is o.bytes_are all)) less,
    ))

-- all that came behind the handshake ends in no operation
pub fault_later : (info : ServerInfo) (rest bytes : List ℕ) (r0 r : ReadTold) (w0 w : WriteTold) (a b : Seen)
    → IsUp OffersNothing false false None false info rest r0 w0 → IsBack r w a b → GaveLater bytes r0 r
    → ends_in_fault (rest ++ bytes) ≡ true
    → FaultLater b
fault_later info rest bytes r0 r w0 w a b up back gave fault =
    ends_last (λ (link : EndedLink). (o : Opened) × IsOpenedBy link o ×
    (ends_in_fault (behind_handshake o) ≡ true)) r w a b back
    (λ pieces took given wrote.
    let o = opened_as info rest bytes r0 r w0 up gave pieces given in (
      o.shaken,
      (o.opens, o.plain),
      ap (λ (r : List ℕ). ends_in_fault (r ++ concat o.shaken.later)) o.rest_is
          ∙ (ap (λ (b : List ℕ). ends_in_fault (rest ++ b)) o.bytes_are ∙ fault),
    ))
