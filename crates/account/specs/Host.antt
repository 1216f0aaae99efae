-- The handle account of the C functions, read off the numbers that a host is given (document 01, "The handle account").
use Rattle.std.specs.Prelude.{◌≡◌, cond, List, [], ℕ, eqb, Float}
use Rattle.model.specs.Types.{Call, Reply}
use Rattle.model.specs.Types.{Call.note_on, Call.control, Call.plan, Call.mix}
use Rattle.model.specs.Types.{Reply.started, Reply.silent, Reply.kept, Reply.off, Reply.done, Reply.released, Reply.planned, Reply.mixed, Reply.refused}
use Rattle.wire.specs.declared.HostDesign.{HostDesign}
use Rattle.wire.specs.declared.HostState.{HostState}
use Rattle.wire.specs.Reads.{flag_of, design_of, numbered, model_of}
use Rattle.host.specs.declared.HostReply.{HostReply}
use Rattle.host.specs.declared.HostOutcome.{HostOutcome}
use Rattle.host.specs.declared.HostMixOutcome.{HostMixOutcome}
use Rattle.host.specs.Said.{report_of}
use Rattle.host.specs.Hosted.{host_reply, host_lent, HostedAs, HostStartAs}
use Rattle.account.specs.Runs.{Program, Ran, RunFrom, Accounted}

-- what a host is given back beside the state: the numbers of a reply, and of a Mix the 64 places of its report
pub record Told : Type 0 where
  pub reply : HostReply
  pub ended : List ℕ

-- the reply that the numbers r of a kind stand for; only a Mix is read with its report
abbrev pub heard_as : ℕ → HostReply → List ℕ → Reply
heard_as kind r ended =
    cond (eqb kind 1) (started r.handle r.killed r.taken)
    (cond (eqb kind 2) (silent r.handle)
    (cond (eqb kind 3) (kept r.handle)
    (cond (eqb kind 4) (off (flag_of r.found))
    (cond (eqb kind 5) done
    (cond (eqb kind 6) (released (flag_of r.found))
    (cond (eqb kind 7) planned
    (cond (eqb kind 8) (mixed r.count ended)
    (refused r.number))))))))

unfoldable pub heard : Told → Reply
heard t = heard_as t.reply.kind t.reply t.ended

-- what a C function promises; only Mix reports
abbrev pub HostPromises : HostState → Call → Told → HostState → Type 0
HostPromises h (note_on n v built) said t = HostedAs h (note_on n v built) said.reply t
HostPromises h (control x) said t = HostedAs h (control x) said.reply t
HostPromises h (plan n vibrato filter sine curve) said t = HostedAs h (plan n vibrato filter sine curve) said.reply t
HostPromises h (mix samples out) said t =
    HostedAs h (mix samples out) said.reply t × (said.ended ≡ report_of (host_reply h (mix samples out)))

-- a host's state can be read where its numbers stand for a state
abbrev pub host : Program
host = record { State = HostState; Said = Told; readable = numbered; model = model_of; reply = heard; Promises = HostPromises }

-- a call on h that gave r, and reports nothing, is one of a run
abbrev pub HostRuns : HostState → Call → HostOutcome → Type 0
HostRuns h c r = host.Promises h c (record { reply = r.reply; ended = [] }) r.state

-- Plan is one, and the lent curve is at exit what the definitions give
abbrev pub HostPlanRuns : HostState → ℕ → Float → Float → Float → List Float → List Float → HostOutcome → Type 0
HostPlanRuns h frames vibrato filter sine old new r =
    HostRuns h (plan frames vibrato filter sine old) r × (new ≡ host_lent h (plan frames vibrato filter sine old))

-- Mix with its report is one, and the lent output is at exit what the definitions give
abbrev pub HostMixRuns : HostState → List Float → List Float → List Float → HostMixOutcome → Type 0
HostMixRuns h samples old new r =
    host.Promises h (mix samples old) (record { reply = r.reply; ended = r.ended }) r.state
    × (new ≡ host_lent h (mix samples old))

-- of every run of the C functions from "the state an accepted start gives": a start that replies kind 9
unfoldable pub HostHandleAccount : Type 0
HostHandleAccount = (d : HostDesign) (r : HostOutcome) → HostStartAs d r → r.reply.kind ≡ 9
    → (xs : List (Ran host)) → RunFrom host r.state xs → Accounted host (design_of d) r.state xs
