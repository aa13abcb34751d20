-- Why a round gave no link follows from what became of it.
use Rattle.nats_pool.specs.Auths.{auth_value}
use Rattle.nats_handshake.specs.Credentials.{SignerAnswers, AuthAnswers, Offers}
use Rattle.std.proofs.Common.{Ok, Err}
use Rattle.nats_dial.proofs.Causing.{connects_cause, connects_began}
use Rattle.nats_dial.proofs.Returning.{connects_back, connects_on, connects_up, connects_well}
use Rattle.nats_dial.proofs.connect.try_connect.Goals as goal

pub returns-in-Err-clause-failed : goal.returns-in-Err-clause-failed
returns-in-Err-clause-failed g c = connects_cause
    g.P.ServerList.Takes g.P.Rounds.Counts g.P.Rounds.Hands g.P.Rounds.Begins g.P.Rounds.round_told
    (Offers SignerAnswers AuthAnswers c.args.options.now.signer c.args.options.now.auth_callback (auth_value c.args.options.now.auth))
    c.args.options.now.tls_required c.args.options.now.name c.args.options.now.no_echo c.args.options.now.connection_timeout
    g.W.Read.LinkRead.read_told g.W.Write.LinkWrite.write_told
    g.met.P.Rounds.takes_round g.met.P.Rounds.counts_round g.met.P.Rounds.hands_round g.met.P.Rounds.begins_round
    c.args.last.now (g.W.Reach.seen c.args.world.now) c.args.pool.now c.in-Err.error
    (g.W.Reach.seen c.connect.new.world) c.connect.new.pool c.in-Err.ensures.connects

pub returns-in-Ok-clause-onward : goal.returns-in-Ok-clause-onward
returns-in-Ok-clause-onward g c = connects_on
    g.P.ServerList.Takes g.P.Rounds.Counts g.P.Rounds.Hands g.P.Rounds.Begins g.P.Rounds.round_told
    (Offers SignerAnswers AuthAnswers c.args.options.now.signer c.args.options.now.auth_callback (auth_value c.args.options.now.auth))
    c.args.options.now.tls_required c.args.options.now.name c.args.options.now.no_echo c.args.options.now.connection_timeout
    g.W.Read.LinkRead.read_told g.W.Write.LinkWrite.write_told
    g.met.P.Rounds.takes_round g.met.P.Rounds.counts_round g.met.P.Rounds.hands_round g.met.P.Rounds.begins_round
    c.args.last.now (g.W.Reach.seen c.args.world.now) c.args.pool.now (Ok c.in-Ok.linked)
    (g.W.Reach.seen c.connect.new.world) c.connect.new.pool c.in-Ok.ensures.connects

pub returns-in-Ok-clause-up : goal.returns-in-Ok-clause-up
returns-in-Ok-clause-up g c = connects_up
    g.P.ServerList.Takes g.P.Rounds.Counts g.P.Rounds.Hands g.P.Rounds.Begins g.P.Rounds.round_told
    (Offers SignerAnswers AuthAnswers c.args.options.now.signer c.args.options.now.auth_callback (auth_value c.args.options.now.auth))
    c.args.options.now.tls_required c.args.options.now.name c.args.options.now.no_echo c.args.options.now.connection_timeout
    g.W.Read.LinkRead.read_told g.W.Write.LinkWrite.write_told
    g.met.P.Rounds.takes_round g.met.P.Rounds.counts_round g.met.P.Rounds.hands_round g.met.P.Rounds.begins_round
    c.args.last.now (g.W.Reach.seen c.args.world.now) c.args.pool.now c.in-Ok.linked
    (g.W.Reach.seen c.connect.new.world) c.connect.new.pool c.in-Ok.ensures.connects

pub returns-in-Ok-clause-well : goal.returns-in-Ok-clause-well
returns-in-Ok-clause-well g c = connects_well
    g.P.ServerList.Takes g.P.Rounds.Counts g.P.Rounds.Hands g.P.Rounds.Begins g.P.Rounds.round_told
    (Offers SignerAnswers AuthAnswers c.args.options.now.signer c.args.options.now.auth_callback (auth_value c.args.options.now.auth))
    c.args.options.now.tls_required c.args.options.now.name c.args.options.now.no_echo c.args.options.now.connection_timeout
    g.W.Read.LinkRead.read_told g.W.Write.LinkWrite.write_told
    g.met.P.Rounds.takes_round g.met.P.Rounds.counts_round g.met.P.Rounds.hands_round g.met.P.Rounds.begins_round
    c.args.last.now (g.W.Reach.seen c.args.world.now) c.args.pool.now c.in-Ok.linked
    (g.W.Reach.seen c.connect.new.world) c.connect.new.pool c.in-Ok.ensures.connects

pub returns-in-Err-clause-back : goal.returns-in-Err-clause-back
returns-in-Err-clause-back g c = connects_back
    g.P.ServerList.Takes g.P.Rounds.Counts g.P.Rounds.Hands g.P.Rounds.Begins g.P.Rounds.round_told
    (Offers SignerAnswers AuthAnswers c.args.options.now.signer c.args.options.now.auth_callback (auth_value c.args.options.now.auth))
    c.args.options.now.tls_required c.args.options.now.name c.args.options.now.no_echo c.args.options.now.connection_timeout
    g.W.Read.LinkRead.read_told g.W.Write.LinkWrite.write_told
    c.args.last.now (g.W.Reach.seen c.args.world.now) c.args.pool.now c.in-Err.error
    (g.W.Reach.seen c.connect.new.world) c.connect.new.pool c.in-Err.ensures.connects

pub returns-in-Err-clause-onward : goal.returns-in-Err-clause-onward
returns-in-Err-clause-onward g c = connects_on
    g.P.ServerList.Takes g.P.Rounds.Counts g.P.Rounds.Hands g.P.Rounds.Begins g.P.Rounds.round_told
    (Offers SignerAnswers AuthAnswers c.args.options.now.signer c.args.options.now.auth_callback (auth_value c.args.options.now.auth))
    c.args.options.now.tls_required c.args.options.now.name c.args.options.now.no_echo c.args.options.now.connection_timeout
    g.W.Read.LinkRead.read_told g.W.Write.LinkWrite.write_told
    g.met.P.Rounds.takes_round g.met.P.Rounds.counts_round g.met.P.Rounds.hands_round g.met.P.Rounds.begins_round
    c.args.last.now (g.W.Reach.seen c.args.world.now) c.args.pool.now (Err c.in-Err.error)
    (g.W.Reach.seen c.connect.new.world) c.connect.new.pool c.in-Err.ensures.connects

pub returns-in-Err-clause-began : goal.returns-in-Err-clause-began
returns-in-Err-clause-began g c = connects_began
    g.P.ServerList.Takes g.P.Rounds.Counts g.P.Rounds.Hands g.P.Rounds.Begins g.P.Rounds.round_told
    (Offers SignerAnswers AuthAnswers c.args.options.now.signer c.args.options.now.auth_callback (auth_value c.args.options.now.auth))
    c.args.options.now.tls_required c.args.options.now.name c.args.options.now.no_echo c.args.options.now.connection_timeout
    g.W.Read.LinkRead.read_told g.W.Write.LinkWrite.write_told
    g.met.P.Rounds.takes_round g.met.P.Rounds.counts_round g.met.P.Rounds.hands_round g.met.P.Rounds.begins_round
    c.args.last.now (g.W.Reach.seen c.args.world.now) c.args.pool.now c.in-Err.error
    (g.W.Reach.seen c.connect.new.world) c.connect.new.pool c.in-Err.ensures.connects
