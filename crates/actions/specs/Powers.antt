-- Power goes and comes back.
use Rattle.rules.specs.Views.{View, closed_all, with_control, with_held, with_link}
use Rattle.spooling.specs.Holdings.{Holding}
use Rattle.spooling.specs.Leaving.{dropped, unloading}
use Rattle.spooling.specs.declared.state.Unload.{Unload}
use Rattle.spooling.specs.declared.state.Unload.TheVariants.{NoOutput, Transmit, Purge}
use Rattle.states.specs.Controls.{fallback_state}
use Rattle.states.specs.declared.link.Link.TheVariants.{Disabled}

-- a transmit stops; a purge goes on
abbrev pub halted_at : Unload → Holding → Holding
halted_at NoOutput h = h
halted_at Transmit h = unloading NoOutput h
halted_at Purge h = h

abbrev pub halted : View → View
halted v = with_held (halted_at v.held.spooling.unload v.held) v

-- open transactions close, a transmit stops, and the queue is dropped
abbrev pub cut_off : View → View
cut_off v = with_held (dropped (halted (closed_all v)).held) (halted (closed_all v))

-- communications are DISABLED and control falls back from every state; nothing is reported, and the rest is kept
unfoldable pub powered : View → View
powered v = with_control (fallback_state v.state.settings.fallback) (with_link Disabled (cut_off v))
