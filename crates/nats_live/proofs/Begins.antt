-- A session that has begun follows its link's bytes.
use Rattle.std.proofs.Common.{◌≡◌, refl, ◌∙◌, sym, ap, subst, inl, inr, ◌⊎◌, ℕ, zero, suc, ◌+◌, ◌≤◌, arith, Bool, true, false, List, [], ◌∷◌, ◌++◌, drop, Option, Some, None, if◌then◌else◌}
use Rattle.std.proofs.lemmas.Bool.{true≢false, false≢true}
use Rattle.std.proofs.lemmas.Option.{none-some}
use Rattle.nats_info.specs.declared.info.ServerInfo.{ServerInfo}
use Rattle.nats_lines.specs.Operations.{Operation, Front, unfinished, got, fault, front, past, operations}
use Rattle.nats_history.specs.History.{Step, opened, fed, read, link_end, max_payload_after}
use Rattle.nats_history.specs.Schedule.{due, due_by, most_due}
use Rattle.nats_history.specs.declared.transcript.LinkWord.TheVariants as word
use Rattle.nats_session.specs.Handler.{Seen, seen_after, idle}
use Rattle.nats_core.specs.Journal.{due_round, due_rounds, all_due}
use Rattle.nats_core.proofs.Dues.{none_round, rounds_enough, round_falls}
use Rattle.nats_live.specs.Ended.{limit_behind, limit_with, is_fault, ends_in_fault, pong, pongs}
use Rattle.nats_live.specs.Flow.{GoesOn, HasBegun}
use Rattle.nats_live.specs.State.{Noise, Kept, default_config, state, begun}
use Rattle.nats_live.proofs.Ops.{pongs_one, goes_first, goes_fed, goes_read, goes_over, goes_fault, not_got_unfinished, not_got_fault}
use Rattle.nats_live.proofs.States.{round_by, round_up, round_down, noise_read, noise_end, begun_read, begun_fault, begun_waits}

-- ---- all that is due are so many rounds

enough : (k : ℕ) (seen : Seen) → (due (due_rounds k seen).parts ≡ None)
    ⊎ (most_due (due_rounds k seen).parts + k ≤ most_due seen.parts)
enough zero seen = inr (omega arith)
enough (suc k) seen = by (enough k seen) (due (due_rounds k seen).parts) refl
  where
    by : (due (due_rounds k seen).parts ≡ None) ⊎ (most_due (due_rounds k seen).parts + k ≤ most_due seen.parts)
        → (next : Option Step)
        → due (due_rounds k seen).parts ≡ next
        → (due (due_rounds (suc k) seen).parts ≡ None) ⊎
        (most_due (due_rounds (suc k) seen).parts + suc k ≤ most_due seen.parts)
    by (inl none) next is = inl (ap (λ (s : Seen). due s.parts) (none_round (due_rounds k seen) none) ∙ none)
    by (inr less) None is = inl (ap (λ (s : Seen). due s.parts) (none_round (due_rounds k seen) is) ∙ is)
    by (inr less) (Some step) is = inr (omega (arith, less, round_falls (due_rounds k seen) step is))

done_at : (seen : Seen) (k : ℕ) → k ≡ suc (most_due seen.parts)
    → (due (due_rounds k seen).parts ≡ None) ⊎ (most_due (due_rounds k seen).parts + k ≤ most_due seen.parts)
    → due (due_rounds k seen).parts ≡ None
done_at seen k is (inl none) = none
done_at seen k is (inr less) = absurd (omega (arith, is, less))

pub all_rounds : (seen : Seen) → (k : ℕ) × (all_due seen ≡ due_rounds k seen)
all_rounds seen =
    let k = suc (most_due seen.parts) in
    (k, sym (rounds_enough k seen (done_at seen k refl (enough k seen))))

-- ---- a session before any call

-- the limit after one more operation
limit_next : (ops : List Operation) (op : Operation) (limit : ℕ)
    → limit_behind (ops ++ op ∷ []) limit ≡ max_payload_after (read op) (limit_behind ops limit)
limit_next [] op limit = refl
limit_next (first ∷ ops) op limit = limit_next ops op (max_payload_after (read first) limit)

-- it follows these bytes of its link, however much of them it has read, and this was the limit of payloads before
pub record Reading (most : ℕ) (joined : List ℕ) (seen : Seen) : Type 0 where
  pub mux : List ℕ
  pub noise : Noise
  pub up : Bool
  pub unread : List ℕ
  pub waiting : List ℕ
  pub done : List Operation
  pub is : seen ≡ state mux noise (begun up unread waiting)
  pub limit : noise.most ≡ limit_behind done most
  pub ups : up ≡ true → GoesOn joined done unread × (waiting ≡ pongs done)
  pub downs : up ≡ false → (ends_in_fault joined ≡ true) × (operations joined ≡ done)

reading_front : (most : ℕ) (joined mux : List ℕ) (n : Noise) (unread waiting : List ℕ) (done : List Operation)
    (f : Front) → front unread ≡ f
    → n.most ≡ limit_behind done most → GoesOn joined done unread → waiting ≡ pongs done
    → Reading most joined (round_by f (state mux n (begun true unread waiting)))
reading_front most joined mux n unread waiting done unfinished e limit goes wrote = record {
  mux = mux;
  noise = n;
  up = true;
  unread = unread;
  waiting = waiting;
  done = done;
  is = begun_waits mux n unread waiting;
  limit = limit;
  ups = λ up. (goes, wrote);
  downs = λ down. absurd (true≢false down);
}
reading_front most joined mux n unread waiting done (got op m) e limit goes wrote = record {
  mux = mux;
  noise = noise_read mux [] op n;
  up = true;
  unread = drop m unread;
  waiting = waiting ++ pong op;
  done = done ++ op ∷ [];
  is = begun_read mux n unread waiting op m
      ∙ ap (λ (f : Front). state mux (noise_read mux [] op n) (begun true (past f unread) (waiting ++ pong op))) e;
  limit = ap (max_payload_after (read op)) limit ∙ sym (limit_next done op most);
  ups = λ up. (
    goes_read joined done unread op m e goes,
    ap (λ (w : List ℕ). w ++ pong op) wrote ∙ sym (pongs_one done op),
  );
  downs = λ down. absurd (true≢false down);
}
reading_front most joined mux n unread waiting done (fault m) e limit goes wrote = record {
  mux = mux;
  noise = noise_end mux n;
  up = false;
  unread = [];
  waiting = [];
  done = done;
  is = begun_fault mux n unread waiting m;
  limit = limit;
  ups = λ up. absurd (false≢true up);
  downs = λ down. (
    goes_fault joined done unread goes (not_got_fault (front unread) m e) ∙ ap is_fault e,
    goes_over joined done unread goes (not_got_fault (front unread) m e),
  );
}

-- a due step is played
pub reading_round : (most : ℕ) (joined : List ℕ) (seen : Seen) → Reading most joined seen
    → Reading most joined (due_round seen)
reading_round most joined seen r = by r.up refl
  where
    by : (b : Bool) → r.up ≡ b → Reading most joined (due_round seen)
    by true up =
        let facts = r.ups up in
        let k = begun r.up r.unread r.waiting in
        subst (Reading most joined)
        (sym (ap due_round r.is ∙ (round_up r.mux r.noise k up
        ∙ ap (λ (b : Bool). round_by (front r.unread) (state r.mux r.noise (begun b r.unread r.waiting))) up)))
        (reading_front most joined r.mux r.noise r.unread r.waiting r.done
        (front r.unread) refl r.limit facts.0 facts.1)
    by false down =
        subst (Reading most joined)
        (sym (ap due_round r.is ∙ (round_down r.mux r.noise (begun r.up r.unread r.waiting) down ∙ sym r.is))) r

pub reading_rounds : (most : ℕ) (joined : List ℕ) (k : ℕ) (seen : Seen) → Reading most joined seen
    → Reading most joined (due_rounds k seen)
reading_rounds most joined zero seen r = r
reading_rounds most joined (suc k) seen r =
    reading_round most joined (due_rounds k seen) (reading_rounds most joined k seen r)

pub reading_all : (most : ℕ) (joined : List ℕ) (seen : Seen) → Reading most joined seen
    → Reading most joined (all_due seen)
reading_all most joined seen r =
    let all = all_rounds seen in
    subst (Reading most joined) (sym all.1) (reading_rounds most joined all.0 seen r)

-- ---- once nothing is due

-- where nothing is due on a link that is up, nothing stands at the front
pub nothing_there : (f : Front) (mux : List ℕ) (n : Noise) (k : Kept) → k.up ≡ true → due (state mux n k).parts ≡ None
    → front k.unread ≡ f → f ≡ unfinished
nothing_there unfinished mux n k up none e = refl
nothing_there (got op m) mux n k up none e =
    let p = (state mux n k).parts in
    absurd (none-some (read op) (sym none
    ∙ (ap (λ (u : Bool). if u then due_by (front k.unread) p else None) up ∙ ap (λ (f : Front). due_by f p) e)))
nothing_there (fault m) mux n k up none e =
    let p = (state mux n k).parts in
    absurd (none-some (link_end word.Fault) (sym none
    ∙ (ap (λ (u : Bool). if u then due_by (front k.unread) p else None) up ∙ ap (λ (f : Front). due_by f p) e)))

-- all operations that its bytes have were read
all_done : (most : ℕ) (joined : List ℕ) (seen : Seen) (r : Reading most joined seen) → due seen.parts ≡ None
    → operations joined ≡ r.done
all_done most joined seen r none = by r.up refl
  where
    by : (b : Bool) → r.up ≡ b → operations joined ≡ r.done
    by true up =
        let here = ap (λ (x : Seen). due x.parts) (sym r.is) ∙ none in
        let there = nothing_there (front r.unread) r.mux r.noise (begun r.up r.unread r.waiting) up here refl in
        goes_over joined r.done r.unread (r.ups up).0 (not_got_unfinished (front r.unread) there)
    by false down = (r.downs down).1

pub has_begun : (most : ℕ) (joined : List ℕ) (seen : Seen) → Reading most joined seen → due seen.parts ≡ None
    → HasBegun (limit_with most joined) joined seen
has_begun most joined seen r none = record {
  mux = r.mux;
  noise = r.noise;
  up = r.up;
  unread = r.unread;
  waiting = r.waiting;
  is = r.is;
  limit = r.limit ∙ ap (λ (ops : List Operation). limit_behind ops most) (sym (all_done most joined seen r none));
  settled = none;
  ups = λ up.
      let facts = r.ups up in
      let over = all_done most joined seen r none in (
        subst (λ (ops : List Operation). GoesOn joined ops r.unread) (sym over) facts.0,
        facts.1 ∙ ap pongs (sym over),
      );
  downs = λ down. (r.downs down).0;
}

-- ---- how a session begins

-- a link comes up
pub reading_up : (mux : List ℕ) (info : ServerInfo) → Reading info.max_payload []
    (seen_after (record { parts = idle (default_config mux); events = []; ready = [] }) (opened info))
reading_up mux info =
    let old : Seen = record { parts = idle (default_config mux); events = []; ready = [] } in
    let new = seen_after old (opened info) in
    record {
      mux = mux;
      noise = record {
        number = new.parts.link.number;
        most = info.max_payload;
        info = new.parts.link.info;
        infos = new.parts.link.infos;
        reads = new.parts.link.reads;
        statistics = new.parts.statistics;
        events = new.events;
      };
      up = true;
      unread = [];
      waiting = [];
      done = [];
      is = refl;
      limit = refl;
      ups = λ up. (goes_first, refl);
      downs = λ down. absurd (true≢false down);
    }

-- bytes join, on a link that is up
pub reading_fed : (most : ℕ) (bytes : List ℕ) (seen : Seen) → HasBegun most [] seen → seen.parts.link.is_up ≡ true
    → Reading most bytes (seen_after seen (fed bytes))
reading_fed most bytes seen b up =
    let is_up : b.up ≡ true = sym (ap (λ (s : Seen). s.parts.link.is_up) b.is) ∙ up in
    let facts = b.ups is_up in
    let old = state b.mux b.noise (begun b.up b.unread b.waiting) in
    subst (λ (s : Seen). Reading most bytes (seen_after s (fed bytes))) (sym b.is) (record {
      mux = b.mux;
      noise = record {
        number = b.noise.number;
        most = b.noise.most;
        info = b.noise.info;
        infos = b.noise.infos;
        reads = b.noise.reads;
        statistics = (seen_after old (fed bytes)).parts.statistics;
        events = b.noise.events;
      };
      up = true;
      unread = b.unread ++ bytes;
      waiting = b.waiting;
      done = [];
      is = ap (λ (u : Bool). seen_after (state b.mux b.noise (begun u b.unread b.waiting)) (fed bytes)) is_up;
      limit = b.limit;
      ups = λ it_is. (goes_fed [] [] b.unread bytes facts.0, facts.1);
      downs = λ down. absurd (true≢false down);
    })
