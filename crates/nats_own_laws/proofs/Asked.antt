-- A beginning of what a client's one link carries asks for numbers that were subscribed.
use Rattle.std.proofs.Common.{◌≡◌, ℕ, true, List, [], ◌∷◌, ◌++◌, length, map, sym, ◌∙◌, ap, take-append-drop}
use Rattle.std.specs.Prelude.{if◌then◌else◌}
use Rattle.std.proofs.lemmas.List.{map-append}
use Rattle.nats_client_text.specs.Grammar.{read_of, read_within}
use Rattle.nats_client_text.specs.Law.{as_read}
use Rattle.nats_history.specs.declared.config.Config.{Config}
use Rattle.nats_history.specs.declared.turn.Turn.TheVariants.{Up}
use Rattle.nats_history.specs.declared.transcript.LinkWord.TheVariants as word
use Rattle.nats_history.specs.History.{History, is_up, at_of, link_text, taken_count}
use Rattle.nats_history.specs.Schedule.{steps}
use Rattle.nats_history.specs.Transcripts.{link_row, ended_links, up_link}
use Rattle.nats_link_text.specs.Law.{carried_read, read_whole, NoSmuggling}
use Rattle.nats_link_text.specs.Sent.{link_commands, ended_commands, up_commands, sent_commands}
use Rattle.nats_own_laws.specs.Own.{OwnNumbers}
use Rattle.nats_own_laws.proofs.Lines.{commands_within}
use Rattle.nats_own_laws.proofs.Numbers.{steps_own, read_ops}

-- lists that are the same have the same last item
last_same : {A : Type 0} (some more : List A) (x y : A) → some ++ x ∷ [] ≡ more ++ y ∷ [] → x ≡ y
last_same [] [] x y is = cc
last_same [] (z ∷ []) x y is = cc
last_same [] (z ∷ w ∷ more) x y is = cc
last_same (z ∷ []) [] x y is = cc
last_same (z ∷ w ∷ some) [] x y is = cc
last_same (z ∷ some) (w ∷ more) x y is = let rest : some ++ x ∷ [] ≡ more ++ y ∷ [] = cc in last_same some more x y rest

up_row : (c : Config) (h : History) → is_up h ≡ true → up_link c h ≡ link_row c word.Up h ∷ []
up_row c h up = ap (λ b. if b then link_row c word.Up h ∷ [] else []) up

up_ops : (c : Config) (h : History) → is_up h ≡ true → up_commands c h ≡ link_commands c h ∷ []
up_ops c h up = ap (λ b. if b then link_commands c h ∷ [] else []) up

-- what the link that is up carries is read as its commands
up_reads : (c : Config) (h : History) → is_up h ≡ true
    → map carried_read (ended_links c h ++ up_link c h) ≡ map read_whole (sent_commands c h)
    → read_of (link_text c h) ≡ read_whole (link_commands c h)
up_reads c h up are =
    let rows = sym (map-append carried_read (ended_links c h) (link_row c word.Up h ∷ []))
    ∙ ap (λ some. map carried_read (ended_links c h ++ some)) (sym (up_row c h up)) in
    let ops = ap (λ some. map read_whole (ended_commands c h ++ some)) (up_ops c h up)
    ∙ map-append read_whole (ended_commands c h) (link_commands c h ∷ []) in
    ap read_of (sym (take-append-drop (taken_count c h) (link_text c h)))
    ∙ last_same (map carried_read (ended_links c h)) (map read_whole (ended_commands c h)) (carried_read (link_row c word.Up h))
    (read_whole (link_commands c h)) (rows ∙ are ∙ ops)

pub own_numbers : NoSmuggling → OwnNumbers
own_numbers law c info turns some more tested config typed none up text =
    let h = steps c (Up info ∷ turns) in
    let reads = up_reads c h up (law c (Up info ∷ turns) tested config typed) in
    commands_within (at_of h).subscribed (length (link_text c h)) some more (map as_read (link_commands c h))
    (ap (λ (bytes : List ℕ). read_within (length (link_text c h)) bytes) (sym text) ∙ reads)
    (read_ops (at_of h).subscribed (link_commands c h) (steps_own c info turns none))
