-- Whether a session goes on. It is of this project.
use Rattle.std.specs.Prelude.{Option, Some, None}
use Rattle.debugger.specs.Sessions.{Session}
use Rattle.itch_debug.specs.declared.session.Next.{Next}
use Rattle.itch_debug.specs.declared.session.Next.TheVariants.{Going, Over}

-- the session of a debugger that goes on, none where it is over
abbrev pub session_of : Next → Session → Option Session
session_of Going s = Some s
session_of Over s = None
