-- The name of each fault, and how a fault is printed.
use Rattle.std.specs.Prelude.{ℕ, List, ◌++◌, codes}
use Rattle.std.specs.Fmt.{decimal}
use Rattle.volume_model.specs.Numbers.{number_of}
use Rattle.volume_model.specs.declared.fault.Fault.{Fault}
use Rattle.volume_model.specs.declared.fault.Fault.TheVariants.{Short, BadField, Trailing, NoMemory, BadCount, TooDeep, NotAMember, Malformed, NoSuchItem, NotDead, NoClash, NotAll, TooFewPicked, BadPair, CountTooSmall, BranchCount, BadParent, MemberReused, NoCertificate, Certificate, OverLimit, Superseded, NotInPlan, NoGroup, EpochsSpent, AllGrown, StaleVolume, StaleMember, AheadMember, NotInstalled, NotWhole, Full, AlreadyWhole, NotEnough, NoRecord, BadPiece, TailSegment, PointAhead, SeriesSpent, NotOpen, LimitReached, BadTransaction, LsnSpent, NotReady, AlreadyDone, NoLogRecord, NotJoined, NoMessage, NotAddressed, NoActor, NoSlot, JournalFull}

-- the name of a fault
abbrev pub name_of : Fault → List ℕ
name_of Short = codes "Short"
name_of BadField = codes "BadField"
name_of Trailing = codes "Trailing"
name_of NoMemory = codes "NoMemory"
name_of BadCount = codes "BadCount"
name_of TooDeep = codes "TooDeep"
name_of NotAMember = codes "NotAMember"
name_of Malformed = codes "Malformed"
name_of NoSuchItem = codes "NoSuchItem"
name_of NotDead = codes "NotDead"
name_of NoClash = codes "NoClash"
name_of NotAll = codes "NotAll"
name_of TooFewPicked = codes "TooFewPicked"
name_of BadPair = codes "BadPair"
name_of CountTooSmall = codes "CountTooSmall"
name_of BranchCount = codes "BranchCount"
name_of BadParent = codes "BadParent"
name_of MemberReused = codes "MemberReused"
name_of NoCertificate = codes "NoCertificate"
name_of Certificate = codes "Certificate"
name_of OverLimit = codes "OverLimit"
name_of Superseded = codes "Superseded"
name_of NotInPlan = codes "NotInPlan"
name_of NoGroup = codes "NoGroup"
name_of EpochsSpent = codes "EpochsSpent"
name_of AllGrown = codes "AllGrown"
name_of StaleVolume = codes "StaleVolume"
name_of StaleMember = codes "StaleMember"
name_of AheadMember = codes "AheadMember"
name_of NotInstalled = codes "NotInstalled"
name_of NotWhole = codes "NotWhole"
name_of Full = codes "Full"
name_of AlreadyWhole = codes "AlreadyWhole"
name_of NotEnough = codes "NotEnough"
name_of NoRecord = codes "NoRecord"
name_of BadPiece = codes "BadPiece"
name_of TailSegment = codes "TailSegment"
name_of PointAhead = codes "PointAhead"
name_of SeriesSpent = codes "SeriesSpent"
name_of NotOpen = codes "NotOpen"
name_of LimitReached = codes "LimitReached"
name_of BadTransaction = codes "BadTransaction"
name_of LsnSpent = codes "LsnSpent"
name_of NotReady = codes "NotReady"
name_of AlreadyDone = codes "AlreadyDone"
name_of NoLogRecord = codes "NoLogRecord"
name_of NotJoined = codes "NotJoined"
name_of NoMessage = codes "NoMessage"
name_of NotAddressed = codes "NotAddressed"
name_of NoActor = codes "NoActor"
name_of NoSlot = codes "NoSlot"
name_of JournalFull = codes "JournalFull"

-- the number and name of a fault, as they are printed
abbrev pub fault_text : Fault → List ℕ
fault_text fault = decimal (number_of fault) ++ codes " " ++ name_of fault
