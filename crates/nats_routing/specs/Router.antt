-- What a publish leaves.
use Rattle.std.specs.Prelude.{ℕ, Bool, true, false, List, [], ◌∷◌, ◌++◌, map, fold, Option, Some, None, option_map}
use Rattle.std.specs.List.{find}
use Rattle.nats_interests.specs.declared.interest.Interest.{Interest}
use Rattle.nats_interests.specs.Interests.{counted, without_peer}
use Rattle.nats_picking.specs.declared.picking.Target.{Target}
use Rattle.nats_picking.specs.Hearing.{heard, answers}
use Rattle.nats_picking.specs.Picking.{target_of, targets_by}
use Rattle.nats_outboxes.specs.declared.outboxes.Letter.{Letter}
use Rattle.nats_outboxes.specs.Outboxes.{at_number, grown, all_said}
use Rattle.nats_routing.specs.declared.publication.Publication.{Publication}
use Rattle.nats_routing.specs.Texts.{message_text, no_responders}

-- the open interests in order of making, and the texts of the peers in order of joining
pub record RouterSeen : Type 0 where
  pub interests : List Interest
  pub outs : List (List ℕ)

abbrev pub letter_of : Publication → Target → Letter
letter_of m t = record { peer = t.peer; text = message_text t.sid m.subject m.respond m.block m.payload }

abbrev pub letters_of : Publication → List Target → List Letter
letters_of m targets = map (letter_of m) targets

abbrev pub counted_all : List Target → List Interest → List Interest
counted_all targets interests = fold (λ left t. counted t.peer t.sid left) interests targets

-- a message goes to some interests, which count it
abbrev pub sent_to : Publication → List Target → RouterSeen → RouterSeen
sent_to m targets r = record {
  interests = counted_all targets r.interests;
  outs = all_said (letters_of m targets) r.outs;
}

-- the message which tells that nobody answers there; it counts like any other
abbrev pub no_answer : List ℕ → Publication
no_answer reply = record { subject = reply; respond = None; block = Some no_responders; payload = [] }

abbrev pub told_unheard : Option Target → List ℕ → RouterSeen → RouterSeen
told_unheard None reply r = r
told_unheard (Some t) reply r = sent_to (no_answer reply) (t ∷ []) r

-- nobody matched: where the publisher wants to know, its oldest interest that matches the reply is told
abbrev pub unheard : Bool → ℕ → Option (List ℕ) → RouterSeen → RouterSeen
unheard wanted peer None r = r
unheard false peer (Some reply) r = r
unheard true peer (Some reply) r = told_unheard (option_map target_of (find (answers peer reply) r.interests)) reply r

abbrev pub published_to : List Target → Bool → ℕ → Publication → RouterSeen → RouterSeen
published_to [] wanted peer m r = unheard wanted peer m.respond r
published_to (t ∷ targets) wanted peer m r = sent_to m (t ∷ targets) r

-- a peer publishes a message
abbrev pub published : ℕ → Bool → Bool → Publication → RouterSeen → RouterSeen
published peer echo wanted m r = published_to (targets_by (heard peer echo m.subject r.interests)) wanted peer m r

-- a peer is told a text
abbrev pub said_to : ℕ → List ℕ → RouterSeen → RouterSeen
said_to p text r = record r { outs = at_number p (grown text) r.outs }

-- all interests of a peer close
abbrev pub closed_by : ℕ → RouterSeen → RouterSeen
closed_by p r = record r { interests = without_peer p r.interests }
