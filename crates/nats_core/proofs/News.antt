-- Where an INFO was read, the server said something.
use Rattle.std.proofs.Common.{◌≡◌, ℕ, ◌≤◌, arith, Bool, true, false, not, cond, [], ◌∷◌, Option, Some, None, is_some, Result, Ok, Err, IfOk, refl, sym, ap, ◌∙◌}
use Rattle.std.specs.Prelude.{◌==◌}
use Rattle.std.proofs.lemmas.Bool.{true≢false, eq-eqb}
use Rattle.std.proofs.lemmas.Option.{none-some}
use Rattle.nats_info.specs.declared.info.ServerInfo.{ServerInfo}
use Rattle.nats_lines.specs.Operations.{info_op}
use Rattle.nats_history.specs.History.{opened, read, History, last_info, infos}
use Rattle.nats_history.specs.Parts.{Parts}
use Rattle.nats_names.specs.declared.failed.NoMemory.{NoMemory}
use Rattle.nats_session.specs.Handler.{Seen}
use Rattle.nats_core.specs.Calls.{news_of, news_since, TellsNews}

none_told : (h : History) → last_info h ≡ None → infos h ≡ 0
none_told [] none = refl
none_told ((place, opened info) ∷ h) none = absurd (none-some info (sym none))
none_told ((place, read (info_op info)) ∷ h) none = absurd (none-some info (sym none))
none_told ((place, step) ∷ h) none = none_told h none

none_more : (infos seen : ℕ) → infos ≡ 0 → seen ≤ infos → (infos == seen) ≡ true
none_more infos seen none at_most = eq-eqb infos seen (omega (arith, none, at_most))

-- there is news exactly where more were read
tells_by : (infos seen : ℕ) (said : Option ServerInfo) → (said ≡ None → infos ≡ 0) → seen ≤ infos
    → is_some (cond (infos == seen) None (news_of infos said)) ≡ not (infos == seen)
tells_by infos seen said none at_most = by (infos == seen) said refl refl
  where
    by : (same : Bool) (s : Option ServerInfo) → (infos == seen) ≡ same → said ≡ s
        → is_some (cond same None (news_of infos s)) ≡ not same
    by true s is said_is = refl
    by false (Some info) is said_is = refl
    by false None is said_is =
        absurd (true≢false (sym (none_more infos seen (none said_is) at_most) ∙ is))

pub tells_news : (seen : ℕ) (session : Seen) (r : Result (Option (ℕ × ServerInfo)) NoMemory)
    → IfOk r (λ news. news ≡ news_since seen session.parts) → TellsNews seen session r
tells_news seen session (Err e) is c out h stands at_most = tt
tells_news seen session (Ok news) is c out h stands at_most =
    ap is_some is
    ∙ tells_by session.parts.link.infos seen session.parts.link.info
    (λ none. ap (λ (p : Parts). p.link.infos) stands.parts
    ∙ none_told h (sym (ap (λ (p : Parts). p.link.info) stands.parts) ∙ none)) at_most
