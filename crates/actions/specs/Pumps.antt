-- Pump: one step of the purge, of the transmit or of the queue.
use Rattle.std.specs.Prelude.{ℕ, Bool, true, false, cond, not, ◌&&◌, List, [], ◌∷◌, is_some, Some, None, Option, ◌==◌, nat_le}
use Rattle.rules.specs.Reporting.{evented}
use Rattle.rules.specs.Sends.{our_header}
use Rattle.rules.specs.Views.{View, with_counts, with_held, with_sent}
use Rattle.rules.specs.declared.event.Event.TheVariants.{SpoolDeactivated}
use Rattle.rules.specs.declared.state.Next.{Next}
use Rattle.sending.specs.Sending.{Sent}
use Rattle.setup.specs.declared.settings.Settings.{Settings}
use Rattle.spooling.specs.Holdings.{with_pending}
use Rattle.spooling.specs.Leaving.{deactivated, purged_at, unloading}
use Rattle.spooling.specs.declared.state.OpenReport.{OpenReport}
use Rattle.spooling.specs.declared.state.Source.{Source}
use Rattle.spooling.specs.declared.state.Source.TheVariants.{Queue, Spool}
use Rattle.spooling.specs.declared.state.Unload.{Unload}
use Rattle.spooling.specs.declared.state.Unload.TheVariants.{NoOutput, Transmit, Purge}
use Rattle.states.specs.Controls.{is_online}
use Rattle.states.specs.declared.control.Control.{Control}
use Rattle.states.specs.declared.link.Link.{Link}
use Rattle.states.specs.declared.link.Link.TheVariants.{Disabled, WaitCra, WaitDelay, Communicating}
use Rattle.store.specs.Reports.{Report, oldest_number}

-- the oldest report of a store, as it is open once it is sent
abbrev pub opened_from : Source → ℕ → List Report → Option OpenReport
opened_from source transaction [] = None
opened_from source transaction (r ∷ rs) =
    Some (record { transaction = transaction; source = source; stream = r.stream; function = r.function })

-- the frame that sends it, or what was sent before where there is none
abbrev pub posted_from : Settings → ℕ → List Report → Option Sent → Option Sent
posted_from settings transaction [] before = before
posted_from settings transaction (r ∷ rs) before =
    Some (record { header = our_header settings true r.stream r.function transaction; body = r.body })

-- a report that is sent opens a transaction with the next number, and stays in its store
abbrev pub opened : Next → Option OpenReport → View → View
opened n None v = v
opened n (Some o) v =
    with_held (with_pending (Some o) v.held) (with_counts (record { transactions = n.transaction; reports = v.state.counts.reports }) v)

-- the oldest report of a store, whose list this is, is sent
abbrev pub report_sent : Next → Source → List Report → View → View
report_sent n source records v =
    opened n (opened_from source n.transaction records) (with_sent (posted_from v.state.settings n.transaction records v.sent) v)

-- the oldest report of the queue or of the spool is sent
abbrev pub report_sent_from : Next → Source → View → View
report_sent_from n Queue v = report_sent n Queue v.held.queue.records v
report_sent_from n Spool v = report_sent n Spool v.held.spool.records v

-- the spool becomes inactive, and its event is reported
abbrev pub spool_ended : Next → View → View
spool_ended n v = evented n SpoolDeactivated (with_held (deactivated v.held) v)

-- a purge removes the oldest report, or ends where there is none
abbrev pub purge_pumped : Next → Option ℕ → View → View
purge_pumped n None v = spool_ended n v
purge_pumped n (Some k) v = with_held (purged_at (Some k) v.held) v

-- as many reports were acknowledged in this transmit as MaxSpoolTransmit says; 0 is no maximum
abbrev pub is_maximum : ℕ → ℕ → Bool
is_maximum most acknowledged = not (most == 0) && nat_le most acknowledged

-- a transmit sends the oldest report, or ends where there is none, or stops at its maximum
abbrev pub transmit_pumped : Next → Option ℕ → View → View
transmit_pumped n None v = spool_ended n v
transmit_pumped n (Some k) v =
    cond (is_maximum v.state.settings.max_transmit v.held.spooling.acknowledged)
    (with_held (unloading NoOutput v.held) v)
    (report_sent_from n Spool v)

abbrev pub is_communicating : Link → Bool
is_communicating Disabled = false
is_communicating WaitCra = false
is_communicating WaitDelay = false
is_communicating Communicating = true

-- reports are sent while communicating and on-line, one at a time
abbrev pub ready_state : Link → Control → Option OpenReport → Bool
ready_state link control pending = is_communicating link && (is_online control && not (is_some pending))

abbrev pub is_ready : View → Bool
is_ready v = ready_state v.state.link v.state.control v.held.pending

abbrev pub pumped_by : Next → Unload → View → View
pumped_by n NoOutput v = cond (is_ready v && not v.held.spooling.active) (report_sent_from n Queue v) v
pumped_by n Transmit v = cond (is_ready v) (transmit_pumped n (oldest_number v.held.spool.records) v) v
pumped_by n Purge v = purge_pumped n (oldest_number v.held.spool.records) v

unfoldable pub pumped : Next → View → View
pumped n v = pumped_by n v.held.spooling.unload v
