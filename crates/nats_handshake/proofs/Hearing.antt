-- A handshake that is fed a text in pieces heard the whole text.
use Rattle.std.proofs.Common.{◌≡◌, refl, ◌∙◌, sym, ap, subst, inl, inr, ℕ, Bool, List, [], ◌++◌, drop, append_assoc, append-nil, Option, Result, Ok, Err}
use Rattle.std.proofs.lemmas.List.{drop-append-le}
use Rattle.nats_info.specs.declared.info.ServerInfo.{ServerInfo}
use Rattle.nats_pool.specs.Auths.{AuthValue}
use Rattle.nats_lines.specs.Operations.{message, info_op, error_op, ok_op, ping_op, pong_op, Front, unfinished, got, fault, front}
use Rattle.nats_lines.proofs.Fronts.{front_more, front_fits}
use Rattle.nats_handshake.specs.declared.course.Verdict.{Verdict}
use Rattle.nats_handshake.specs.declared.course.Verdict.TheVariants as verdict
use Rattle.nats_handshake.specs.declared.course.Greeting.{Greeting}
use Rattle.nats_handshake.specs.declared.course.Greeting.TheVariants as greeting
use Rattle.nats_handshake.specs.declared.stage.Stage.{Stage}
use Rattle.nats_handshake.specs.declared.stage.Stage.TheVariants as stage
use Rattle.nats_handshake.specs.declared.stage.Shake.{Shake}
use Rattle.nats_handshake.specs.declared.stage.Shake.TheVariants as shake
use Rattle.nats_handshake.specs.Course.{Course, course, behind_out, greeting_at}
use Rattle.nats_handshake.specs.Shaking.{Talk, end_cause, operations_most, opening, IsAnswer, Goes, Stops, StopsOrWants, Greeted, Repelled, Heeds}
use Rattle.nats_handshake.specs.Errors.{Failure}
use Rattle.nats_handshake.specs.Heard.{end_by, end_behind, Knows, Wrote, Heard, HeardMore, IsOpen, RefusesIn, RefusesText}
use Rattle.nats_handshake.proofs.Heard.{course_more}

pub answer_waits : (v : Verdict) → IsAnswer v shake.More → v ≡ verdict.Waits
answer_waits verdict.Waits a = refl
answer_waits verdict.Succeeds a = cc
answer_waits (verdict.Refuses r) a = absurd a

answer_succeeds : (v : Verdict) → IsAnswer v shake.Done → v ≡ verdict.Succeeds
answer_succeeds verdict.Waits a = cc
answer_succeeds verdict.Succeeds a = refl
answer_succeeds (verdict.Refuses r) a = absurd a

abbrev with_verdict : Course → Verdict → Course
with_verdict c v = record { verdict = v; left = c.left; rest = c.rest; out = c.out }

-- a course that succeeds
succeeded : (c : Course) → c.verdict ≡ verdict.Succeeds
    → c ≡ record { verdict = verdict.Succeeds; left = c.left; rest = c.rest; out = c.out }
succeeded c e = ap (with_verdict c) e

-- one that heard the INFO just now
knows_first : (info : ServerInfo) (n : ℕ) (text : List ℕ) (c : Course) → c ≡ course operations_most (drop n text)
    → front text ≡ got (info_op info) n → c.verdict ≡ verdict.Waits → Knows info c.left c.rest c.out text
knows_first info n text c same e w = record {
  len = n;
  first = e;
  alike = λ more. ap (λ (t : List ℕ). course operations_most t) (drop-append-le n text more (front_fits text (info_op info) n e))
      ∙ (rw same (course_more operations_most (drop n text) more (rw same at w)));
}

-- one that knows the INFO hears more
knows_more : (info : ServerInfo) (left : ℕ) (unread said text bytes : List ℕ) (c : Course) → c ≡ course left (unread ++ bytes)
    → Knows info left unread said text → c.verdict ≡ verdict.Waits
    → Knows info c.left c.rest (said ++ c.out) (text ++ bytes)
knows_more info left unread said text bytes c same k w = record {
  len = k.len;
  first = front_more text bytes (info_op info) k.len k.first;
  alike = λ more. ap (λ (t : List ℕ). course operations_most (drop k.len t)) (append_assoc text bytes more)
      ∙ k.alike (bytes ++ more)
      ∙ ap (λ (t : List ℕ). behind_out said (course left t)) (sym (append_assoc unread bytes more))
      ∙ ap (λ (d : Course). behind_out said d) (rw same (course_more left (unread ++ bytes) more (rw same at w)))
      ∙ ap (λ (o : List ℕ). record (course c.left (c.rest ++ more)) { out = o })
      (sym (append_assoc said c.out ((course c.left (c.rest ++ more)).out)));
}

module _ (Offers : List ℕ → Result AuthValue (List ℕ) → Type 0) (name : Option (List ℕ)) (no_echo : Bool) where
  wrote_more : (info : ServerInfo) (wrote said more : List ℕ) → Wrote Offers name no_echo info said wrote
      → Wrote Offers name no_echo info (said ++ more) (wrote ++ more)
  wrote_more info wrote said more w =
      (w.0, w.1, ap (λ (o : List ℕ). o ++ more) w.2 ∙ append_assoc (opening name no_echo w.0) said more)

  goes_first : (s : Shake) (info : ServerInfo) (n : ℕ) (auth : AuthValue) (t new : Talk) (c : Course)
      → c ≡ course operations_most (drop n t.unread) → front t.unread ≡ got (info_op info) n → Offers info.nonce (Ok auth)
      → Goes info (behind_out (opening name no_echo auth) c) t s new → HeardMore Offers name no_echo t new [] t.unread
  goes_first shake.More info n auth t new c same e offers goes = rw goes.1 (
    opening name no_echo auth ++ c.out,
    refl,
    (c.out, (auth, offers, refl), knows_first info n t.unread c same e (answer_waits c.verdict goes.0)),
  )
  goes_first shake.Done info n auth t new c same e offers goes = rw goes.1 (
    opening name no_echo auth ++ c.out,
    refl,
    (
      c.out,
      (auth, offers, refl),
      record { len = n; left = c.left; first = e; all = sym same ∙ succeeded c (answer_succeeds c.verdict goes.0) },
    ),
  )

  goes_more : (s : Shake) (info : ServerInfo) (left : ℕ) (t new : Talk) (unread wrote said text bytes : List ℕ) (c : Course)
      → c ≡ course left (unread ++ bytes) → Wrote Offers name no_echo info said wrote → Knows info left unread said text
      → Goes info c t s new → HeardMore Offers name no_echo t new wrote (text ++ bytes)
  goes_more shake.More info left t new unread wrote said text bytes c same w k goes = rw goes.1 (
    c.out,
    refl,
    (
      said ++ c.out,
      wrote_more info wrote said c.out w,
      knows_more info left unread said text bytes c same k (answer_waits c.verdict goes.0),
    ),
  )
  goes_more shake.Done info left t new unread wrote said text bytes c same w k goes = rw goes.1 (
    c.out,
    refl,
    (
      said ++ c.out,
      wrote_more info wrote said c.out w,
      record {
        len = k.len;
        left = c.left;
        first = front_more text bytes (info_op info) k.len k.first;
        all = k.alike bytes ∙ ap (λ (d : Course). behind_out said d) (sym same ∙ succeeded c (answer_succeeds c.verdict goes.0));
      },
    ),
  )

-- what the end of its link is to an open handshake that heard this text
pub ends_behind : (Offers : List ℕ → Result AuthValue (List ℕ) → Type 0) (name : Option (List ℕ)) (no_echo : Bool)
    (at : Stage) (unread wrote text : List ℕ) → IsOpen at → Heard Offers name no_echo at unread wrote text
    → end_cause at ≡ end_behind text
ends_behind Offers name no_echo stage.Greets unread wrote text going h = sym (ap end_by h.2)
ends_behind Offers name no_echo (stage.Asks info left) unread wrote text going h =
    sym (ap (λ (f : Front). end_by (greeting_at f)) h.2.first)
ends_behind Offers name no_echo (stage.Linked info) unread wrote text going h = absurd going
ends_behind Offers name no_echo (stage.Refused kind) unread wrote text going h = absurd going

module _ (Discovers : List (List ℕ) → List (List ℕ) → Type 0) (Stays : Type 0)
    (Offers : List ℕ → Result AuthValue (List ℕ) → Type 0) (by_option : Bool) (name : Option (List ℕ)) (no_echo : Bool)
  where
    greeted_by : (f : Front) (t new : Talk) (s : Shake) → t.stage ≡ stage.Greets → front t.unread ≡ f
        → Greeted Discovers Stays Offers by_option name no_echo (greeting_at f) t s new
        → HeardMore Offers name no_echo t new [] t.unread
    greeted_by unfinished t new s g e h =
        rw (h.2, g) ([], sym (append-nil t.out), (refl, refl, ap greeting_at e))
    greeted_by (fault k) t new s g e h = absurd h
    greeted_by (got (info_op info) n) t new s g e h =
        goes_first Offers name no_echo s info n h.0 (record t { skipped = h.1 }) new (course operations_most (drop n t.unread))
        refl e h.2.2 h.3
    greeted_by (got (message sid m) k) t new s g e h = absurd h
    greeted_by (got (error_op error) k) t new s g e h = absurd h
    greeted_by (got ok_op k) t new s g e h = absurd h
    greeted_by (got ping_op k) t new s g e h = absurd h
    greeted_by (got pong_op k) t new s g e h = absurd h

    -- what a handshake heard once it took more bytes
    pub heard_next : (at : Stage) (t new : Talk) (s : Shake) (unread wrote text bytes : List ℕ) → IsOpen at → t.stage ≡ at
        → t.unread ≡ unread ++ bytes → Heard Offers name no_echo at unread wrote text
        → Heeds Discovers Stays Offers by_option name no_echo at t (Ok s) new
        → HeardMore Offers name no_echo t new wrote (text ++ bytes)
    heard_next stage.Greets t new s unread wrote text bytes going g e h comes =
        let same : t.unread ≡ text ++ bytes = e ∙ ap (λ (u : List ℕ). u ++ bytes) h.0 in
        rw (h.1, ← same) (greeted_by (front t.unread) t new s g refl comes)
    heard_next (stage.Asks info left) t new s unread wrote text bytes going g e h comes =
        goes_more Offers name no_echo s info left t new unread wrote h.0 text bytes (course left t.unread)
        (ap (λ (u : List ℕ). course left u) e) h.1 h.2 comes.1
    heard_next (stage.Linked info) t new s unread wrote text bytes going g e h comes = absurd going
    heard_next (stage.Refused kind) t new s unread wrote text bytes going g e h comes = absurd going

    repels : (said : Greeting) (t : Talk) (text : List ℕ) (e : Failure) → t.unread ≡ text
        → Repelled Discovers Stays Offers by_option name no_echo said t e
        → RefusesIn Discovers Stays Offers by_option name no_echo t.is_tls said text e
    repels greeting.Waits t text e same (s, w) = w
    repels (greeting.Refuses r) t text e same (s, w) = w
    repels (greeting.Greets info n) t text e same (inl d) = inl d
    repels (greeting.Greets info n) t text e same (inr (auth, skipped, takes, stops)) =
        inr (inl (subst (λ (u : List ℕ). Stops ((course operations_most (drop n u)).verdict) e) same stops))

    -- why a handshake refuses that heard this text
    pub refuses_next : (at : Stage) (t : Talk) (unread wrote text bytes : List ℕ) (e : Failure) → IsOpen at
        → t.unread ≡ unread ++ bytes → Heard Offers name no_echo at unread wrote text
        → Heeds Discovers Stays Offers by_option name no_echo at t (Err e) t
        → RefusesText Discovers Stays Offers by_option name no_echo t.is_tls (text ++ bytes) e
    refuses_next stage.Greets t unread wrote text bytes e going same h refuses =
        let whole : t.unread ≡ text ++ bytes = same ∙ ap (λ (u : List ℕ). u ++ bytes) h.0 in
        subst (λ (u : List ℕ). RefusesIn Discovers Stays Offers by_option name no_echo t.is_tls (greeting_at (front u)) (text ++ bytes) e)
        whole (repels (greeting_at (front t.unread)) t (text ++ bytes) e whole refuses.0)
    refuses_next (stage.Asks info left) t unread wrote text bytes e going same h refuses =
        let k = h.2 in
        rw (front_more text bytes (info_op info) k.len k.first)
        (inr (subst (λ (v : Verdict). StopsOrWants v e) (sym (ap (λ (c : Course). c.verdict) (k.alike bytes)))
        (subst (λ (u : List ℕ). StopsOrWants ((course left u).verdict) e) same refuses.1.0)))
    refuses_next (stage.Linked info) t unread wrote text bytes e going same h refuses = absurd going
    refuses_next (stage.Refused kind) t unread wrote text bytes e going same h refuses = absurd going
